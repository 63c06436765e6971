-- `trips::broken_in`: nothing is broken in the trips passed, nor at the positions passed of this trip.
use Rattle.laws.proofs.Found.{Nothing}
use Rattle.route_times.specs.Route.{timed}
use Rattle.trips.proofs.EventTests.{trip_at, event_at}
use Rattle.trips.proofs.broken_in.Given as goal

abbrev pub invariant-loop-i : goal.invariant-loop-i
invariant-loop-i l = Nothing (event_at l.sought (timed l.times) l.j) l.i

abbrev pub invariant-loop-j : goal.invariant-loop-j
invariant-loop-j l = Nothing (trip_at l.sought (timed l.times)) l.j
