-- `scan::routes::look` meets its contract. The loop's invariant is `Scanned`.
use Rattle.scan.specs.Look.{cut}
use Rattle.scan.proofs.Looking.{Scanned}
use Rattle.scan.proofs.routes.look.Given as goal

abbrev pub invariant-loop-i : goal.invariant-loop-i
invariant-loop-i l = Scanned (cut l.route) l.row l.initial.reach l.reach l.c l.work l.i
