use Rattle.std.proofs.Common.{ap, not}
use native.Mathlib.Omega.{arith}
use Rattle.paper.specs.Timetable.{lent}
use Rattle.paper.proofs.Places.{Counted}
use Rattle.timetable.proofs.CountTests.{summed_start, summed_next, summed_found, summed_end, route_counts}
use Rattle.timetable.proofs.counts.lowest_route.Goals as goal
use Rattle.timetable.proofs.counts.lowest_route.Goals.{Else-not-counted-route}

-- a route that is right
counts :
    (c : Else-not-counted-route)
    → let x = c.extent_of-route.result in let l = c.loop-r in Counted x.n x.m l.trips l.events
counts c =
    route_counts (lent c.args.tables) _ _ _ _ c.loop-r.invariant c.extent_of-route.ensures
    c.counted.ensures (ap not c.if-not-counted-route.false)

pub loop-r-init : goal.loop-r-init
loop-r-init c = summed_start _

pub returns-then-not-counted-route : goal.returns-then-not-counted-route
returns-then-not-counted-route c =
    summed_found (lent c.args.tables) _ _ _ _ c.loop-r.invariant c.extent_of-route.ensures c.loop-r-test.true
    c.counted.ensures (ap not c.if-not-counted-route.true)

pub overflow_add-positions : goal.overflow_add-positions
overflow_add-positions c =
    let k = counts (goal.at.overflow_add-positions c).Else-not-counted-route in
    omega (arith, k.n≤, c.loop-r.invariant.positions≤)

pub overflow_add-trips : goal.overflow_add-trips
overflow_add-trips c = omega (arith, (counts (goal.at.overflow_add-trips c).Else-not-counted-route).trips≤)

pub overflow_mul-events : goal.overflow_mul-events
overflow_mul-events c = omega (arith, (counts (goal.at.overflow_mul-events c).Else-not-counted-route).events≤)

pub overflow_add-events : goal.overflow_add-events
overflow_add-events c = omega (arith, (counts (goal.at.overflow_add-events c).Else-not-counted-route).events≤)

pub loop-r-preserved : goal.loop-r-preserved
loop-r-preserved c =
    summed_next (lent c.args.tables) _ _ _ _ c.loop-r.invariant c.extent_of-route.ensures c.loop-r-test.true
    c.counted.ensures (ap not c.if-not-counted-route.false)

pub returns : goal.returns
returns c = summed_end (lent c.args.tables) _ _ _ _ c.loop-r.invariant c.loop-r-test.false
