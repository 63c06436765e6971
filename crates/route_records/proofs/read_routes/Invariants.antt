-- `route_records::read_routes` meets its contract: so many routes are well.
use Rattle.std.proofs.Common.{Ok}
use Rattle.laws.specs.Below.{iterate}
use Rattle.paper.specs.Reading.{next_route, no_routes}
use Rattle.route_records.specs.State.{RoutesOn, no_mid}
use Rattle.route_records.proofs.read_routes.Given as goal

abbrev pub invariant-loop : goal.invariant-loop
invariant-loop l = RoutesOn l.e l.counter no_mid (iterate l.counter (next_route l.f l.e) no_routes) (Ok l.q) l.initial.room l.room
