use Rattle.paper.specs.Timetable.{lent}
use Rattle.timetable.proofs.CountTests.{totalled_start, totalled_next}
use Rattle.timetable.proofs.counts.totals_of.Goals as goal

pub loop-r-init : goal.loop-r-init
loop-r-init c = totalled_start _

pub loop-r-preserved : goal.loop-r-preserved
loop-r-preserved c =
    rw c.extent_of-route.ensures
    (totalled_next (lent c.args.tables) _ _ _ c.requires c.loop-r.invariant c.loop-r-test.true)
