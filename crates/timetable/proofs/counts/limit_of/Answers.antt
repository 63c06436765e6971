-- `timetable::counts::limit_of`: nothing wraps, since the totals are small.
use mathlib.Core.Path.{refl}
use native.Mathlib.Omega.{arith}
use Rattle.paper.specs.Timetable.{lent, positions_to, trips_to}
use Rattle.paper.specs.Work.{limit_of}
use Rattle.timetable.proofs.CountTests.{TotalsFit, totals_fit}
use Rattle.timetable.proofs.counts.limit_of.Goals as goal
use Rattle.timetable.proofs.counts.limit_of.Goals.{After-totals_of-all}

-- the totals are small
fit : (c : After-totals_of-all) → let x = c.totals_of-all.result in TotalsFit (lent c.args.tables) x.positions x.trips
fit c = totals_fit (lent c.args.tables) c.requires.laid c.totals_of-all.ensures

pub overflow_sub-result : goal.overflow_sub-result
overflow_sub-result c = (fit (goal.at.overflow_sub-result c).After-totals_of-all).positions≥

pub overflow_add-result : goal.overflow_add-result
overflow_add-result c =
    let t = fit (goal.at.overflow_add-result c).After-totals_of-all in omega (arith, c.requires.walks≤)

pub overflow_add-result-2 : goal.overflow_add-result-2
overflow_add-result-2 c =
    let t = fit (goal.at.overflow_add-result-2 c).After-totals_of-all in omega (arith, c.requires.walks≤)

pub overflow_mul-result : goal.overflow_mul-result
overflow_mul-result c =
    let t = fit (goal.at.overflow_mul-result c).After-totals_of-all in omega (arith, c.requires.walks≤)

pub returns : goal.returns
unfolding limit_of positions_to trips_to
returns c = rw c.totals_of-all.ensures refl
