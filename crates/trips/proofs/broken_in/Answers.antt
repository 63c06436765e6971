use Rattle.std.proofs.Common.{ap, not}
use native.Mathlib.Omega.{arith}
use Rattle.route_times.specs.Route.{timed}
use Rattle.trips.proofs.EventTests.{position_passed, event_found, trip_passed, event_none, none_wrong}
use Rattle.trips.proofs.broken_in.Goals as goal

pub returns-then-not-any_wrong : goal.returns-then-not-any_wrong
returns-then-not-any_wrong c = none_wrong _ (timed c.args.times) c.any_wrong.ensures (ap not c.if-not-any_wrong.true)

pub returns-then-event_broken : goal.returns-then-event_broken
returns-then-event_broken c =
    rw c.ahead-ahead.ensures
    (event_found _ (timed c.args.times) _ _ (omega arith) c.loop-i-test.true c.loop-j.invariant c.loop-i.invariant
    c.event_broken.ensures c.if-event_broken.true)

pub loop-i-preserved : goal.loop-i-preserved
loop-i-preserved c =
    position_passed _ (timed c.args.times) _ _ c.loop-i.invariant c.event_broken.ensures c.if-event_broken.false

pub loop-j-preserved : goal.loop-j-preserved
loop-j-preserved c =
    trip_passed _ (timed c.args.times) _ _ c.loop-i-test.false (omega arith) c.loop-j.invariant c.loop-i.invariant

pub returns : goal.returns
returns c = event_none _ (timed c.args.times) _ (omega arith) (omega arith) c.loop-j.invariant
