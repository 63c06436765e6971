-- `scan::routes::board` meets its contract. The loop's invariant is `Boarding`.
use Rattle.scan.proofs.Looking.{Boarding}
use Rattle.scan.proofs.routes.board.Given as goal

abbrev pub invariant-loop-j : goal.invariant-loop-j
invariant-loop-j l = Boarding l.departures l.n l.i l.c l.at l.j l.work
