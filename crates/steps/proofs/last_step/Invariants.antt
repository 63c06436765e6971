-- `steps::last_step` meets its contract. The loop keeps that no way below its number has a step.
use Rattle.laws.proofs.Found.{Nothing}
use Rattle.paper.specs.Timetable.{lent}
use Rattle.steps.proofs.Search.{on_way}
use Rattle.steps.proofs.last_step.Given as goal

abbrev pub invariant-loop-number : goal.invariant-loop-number
invariant-loop-number l = Nothing (on_way (lent l.tables) l.row l.next l.p l.v l.from) l.number
