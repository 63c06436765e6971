use Rattle.laws.proofs.Below.{tallied_start, tallied_more}
use Rattle.route_times.specs.Route.{timed}
use Rattle.route_times.specs.Folds.{fall_at}
use Rattle.route_times.proofs.Rising.{fall≤}
use Rattle.route_times.proofs.falls.Goals as goal

pub loop-k-init : goal.loop-k-init
loop-k-init c = tallied_start _ _

pub loop-k-preserved : goal.loop-k-preserved
unfolding fall_at
loop-k-preserved c = tallied_more (fall≤ (timed c.args.times) _) c.loop-k-test.true c.loop-k.invariant
