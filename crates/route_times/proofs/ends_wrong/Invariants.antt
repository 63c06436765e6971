-- `route_times::ends_wrong`: where nothing is wrong so far, both ends of the trips passed are right.
use mathlib.Core.Path.{◌≡◌}
use mathlib.Core.Bool.{false}
use Rattle.route_times.specs.Route.{timed}
use Rattle.route_times.proofs.Rising.{EndsUpto}
use Rattle.route_times.proofs.ends_wrong.Given as goal

abbrev pub invariant-loop-j : goal.invariant-loop-j
invariant-loop-j l = l.wrong ≡ false → EndsUpto (timed l.times) l.j
