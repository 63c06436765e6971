-- `rounds::run` meets its contract. The loop's invariant is `Running`.
use Rattle.paper.specs.Timetable.{lent}
use Rattle.rounds.proofs.Running.{Running}
use Rattle.rounds.proofs.run.Given as goal

abbrev pub invariant-loop-k : goal.invariant-loop-k
invariant-loop-k l = Running (lent l.tables) l.q l.initial.labels l.labels l.work l.k
