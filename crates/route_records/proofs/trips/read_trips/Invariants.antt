-- `route_records::trips::read_trips` meets its contract: so many trips are well.
use Rattle.std.proofs.Common.{◌*◌, Ok}
use Rattle.laws.specs.Below.{iterate}
use Rattle.paper.specs.Reading.{trip_at}
use Rattle.route_records.specs.State.{trips_of, TripsOn}
use Rattle.route_records.proofs.trips.read_trips.Given as goal

abbrev pub invariant-loop : goal.invariant-loop
invariant-loop l =
    let s = l.initial in
    TripsOn l.e (l.n * l.counter) s.q (iterate l.counter (trip_at l.f l.e l.n) (trips_of s.q s.room)) (Ok l.q) s.room l.room
