-- `trips::time_broken`: the event's own tests, then the next arrival.
use Rattle.route_times.specs.Route.{timed}
use Rattle.trips.proofs.EventTests.{time_first, time_next, time_last}
use Rattle.trips.proofs.time_broken.Goals as goal

pub returns-then-own_broken : goal.returns-then-own_broken
returns-then-own_broken c = time_first (timed c.args.times) _ _ c.own_broken.ensures c.if-own_broken.true

pub returns-then-i-times : goal.returns-then-i-times
returns-then-i-times c = time_next (timed c.args.times) _ _ c.own_broken.ensures c.if-own_broken.false c.if-i-times.true

pub returns : goal.returns
returns c = time_last (timed c.args.times) _ _ c.own_broken.ensures c.if-own_broken.false c.if-i-times.false
