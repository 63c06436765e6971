use native.Mathlib.Omega.{arith}
use Rattle.paper.specs.Timetable.{lent}
use Rattle.trips.proofs.Routes.{route_found, route_none}
use Rattle.trips.proofs.lowest_event.Goals as goal

pub returns-in-Some : goal.returns-in-Some
returns-in-Some c =
    route_found (lent c.args.tables) _ _ c.extent_of-route.ensures c.loop-r-test.true
    c.loop-r.invariant c.in-Some.ensures

pub returns : goal.returns
returns c = route_none (lent c.args.tables) _ _ c.loop-r-test.false (omega arith) c.loop-r.invariant
