use Rattle.route_times.specs.Route.{timed}
use Rattle.route_times.proofs.Folds.{order_told}
use Rattle.route_times.proofs.order_wrong.Goals as goal

pub returns : goal.returns
returns c = order_told (timed c.args.times) c.requires c.in_order-arrive.ensures c.in_order-depart.ensures
