-- `trips::is_overtaken`: the two tests are the definition's.
use Rattle.route_times.specs.Route.{timed}
use Rattle.trips.proofs.EventTests.{pair_is}
use Rattle.trips.proofs.is_overtaken.Goals as goal

pub returns : goal.returns
returns c = pair_is (timed c.args.times) _ _
