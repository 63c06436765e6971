-- `route_times::falls`: the count so far is the sum so far.
use Prim.Native.Nat.{◌+◌, ◌*◌, ◌-◌}
use Rattle.laws.proofs.Below.{Tallied}
use Rattle.route_times.specs.Route.{timed}
use Rattle.route_times.specs.Folds.{fall_at}
use Rattle.route_times.proofs.falls.Given as goal

abbrev pub invariant-loop-k : goal.invariant-loop-k
invariant-loop-k l = Tallied (λ k. fall_at (timed l.times) (k * l.step + (l.step - 1))) l.runs l.count l.k
