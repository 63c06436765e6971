-- `route_times::any_wrong` meets its contract, by the rule that is sought.
use Rattle.route_times.specs.Route.{timed}
use Rattle.route_times.proofs.Folds.{order_sought, times_sought}
use Rattle.route_times.proofs.any_wrong.Goals as goal

pub returns-in-Time : goal.returns-in-Time
returns-in-Time c = rw c.in-Time.is (times_sought (timed c.args.times) c.times_wrong.ensures)

pub returns-in-Overtake : goal.returns-in-Overtake
returns-in-Overtake c = rw c.in-Overtake.is (order_sought (timed c.args.times) c.order_wrong.ensures)
