-- `rounds::rows::settle` meets its contract. The loop's invariant is `Repeating`.
use Rattle.rounds.proofs.Writing.{Repeating}
use Rattle.rounds.proofs.rows.settle.Given as goal

abbrev pub invariant-loop-j : goal.invariant-loop-j
invariant-loop-j l = Repeating l.initial.labels l.labels l.k l.limit l.j
