-- `scan::routes::ride` meets its contract. The loop's invariant is `Riding`.
use Rattle.paper.specs.Timetable.{lent}
use Rattle.scan.proofs.Riding.{Riding}
use Rattle.scan.proofs.routes.ride.Given as goal

abbrev pub invariant-loop-r : goal.invariant-loop-r
invariant-loop-r l = Riding (lent l.tables) l.row l.initial.reach l.reach l.work l.r
