-- `route_times::times_wrong`: what its four loops tell together.
use Rattle.route_times.specs.Route.{timed}
use Rattle.route_times.proofs.Rising.{each_event, each_trip, times_told}
use Rattle.route_times.proofs.times_wrong.Goals as goal

pub falls-all-requires : goal.falls-all-requires
falls-all-requires c = each_event (timed c.args.times) c.requires

pub falls-between-requires : goal.falls-between-requires
falls-between-requires c = each_trip (timed c.args.times) c.requires

pub returns : goal.returns
returns c =
    times_told (timed c.args.times) c.requires c.ends_wrong-ends.ensures c.in_order-halts.ensures
    c.falls-all.ensures c.falls-between.ensures
