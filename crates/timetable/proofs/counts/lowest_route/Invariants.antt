-- `timetable::counts::lowest_route`: the routes passed are right, and these are their sums.
use Rattle.paper.specs.Timetable.{lent}
use Rattle.timetable.proofs.CountTests.{Summed}
use Rattle.timetable.proofs.counts.lowest_route.Given as goal

abbrev pub invariant-loop-r : goal.invariant-loop-r
invariant-loop-r l = Summed (lent l.tables) l.r l.positions l.trips l.events
