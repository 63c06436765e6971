-- `trips::event_broken` meets its contract, by the rule that is sought.
use Rattle.route_times.specs.Route.{event_broken}
use Rattle.trips.proofs.event_broken.Goals as goal

pub returns-in-Time : goal.returns-in-Time
unfolding event_broken
returns-in-Time c = rw c.in-Time.is c.time_broken.ensures

pub returns-in-Overtake : goal.returns-in-Overtake
unfolding event_broken
returns-in-Overtake c = rw c.in-Overtake.is c.is_overtaken.ensures
