-- `timetable::counts::totals_of`: the sums of the routes passed.
use Rattle.paper.specs.Timetable.{lent}
use Rattle.timetable.proofs.CountTests.{Totalled}
use Rattle.timetable.proofs.counts.totals_of.Given as goal

abbrev pub invariant-loop-r : goal.invariant-loop-r
invariant-loop-r l = Totalled (lent l.tables) l.r l.positions l.trips
