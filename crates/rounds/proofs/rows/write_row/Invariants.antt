-- `rounds::rows::write_row` meets its contract. The loop's invariant is `Writing`.
use Rattle.rounds.proofs.Writing.{Writing}
use Rattle.rounds.proofs.rows.write_row.Given as goal

abbrev pub invariant-loop-s : goal.invariant-loop-s
invariant-loop-s l = Writing l.initial.labels l.labels l.k l.stops l.reach l.next l.improved l.s
