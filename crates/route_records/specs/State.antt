-- What the code holds while it reads routes, tied to 01's reading: a struct of numbers, and tables whose fronts are the lists so far.
use Rattle.std.specs.Prelude.{◌≡◌, ⊤, cond, List, ℕ, ◌+◌, ◌*◌, ◌≤◌, ◌<◌, length, take, leb, Result, Ok, Err}
use Rattle.paper.specs.Rules.{counted}
use Rattle.paper.specs.Reading.{marked, Trips, Routes}
use Rattle.paper.specs.declared.Refusal.{Refusal}
use Rattle.paper.specs.declared.Room.{Room}
use Rattle.route_records.specs.Keep.{Holds, Kept, Refused}
use Rattle.route_records.specs.declared.trips.TripsRead.{TripsRead}
use Rattle.route_records.specs.declared.RoutesRead.{RoutesRead}

-- ---- the trips of a route

abbrev pub trips_of : TripsRead → Room → Trips
trips_of s room = record { bad = 0; at = s.at; t3 = take s.events room.arrivals.now; t4 = take s.events room.departures.now }

-- the reading w is well, and r stands for it
pub record TripsWell (w : Trips) (r : TripsRead) : Type 0 where
  pub bad : w.bad ≡ 0
  pub at : r.at ≡ w.at
  pub arrivals : r.events ≡ length w.t3
  pub departures : r.events ≡ length w.t4

abbrev pub TripsEnd : Trips → Result TripsRead Refusal → Type 0
TripsEnd w (Ok r) = TripsWell w r
TripsEnd w (Err x) = Refused w.bad w.at x

-- there is room for k events more
pub record TripRoom (e n k : ℕ) (s : TripsRead) (f : List ℕ) (room : Room) : Type 0 where
  pub within : s.at ≤ e
  pub feed : e + 3 ≤ length f
  pub small : e < 32768
  pub n≤ : n ≤ 64
  pub long3 : s.events + k ≤ length room.arrivals.now
  pub long4 : s.events + k ≤ length room.departures.now

-- tables 1, 2 and 5 are as they were
pub record TripsOthers (old new : Room) : Type 0 where
  pub routes : new.routes ≡ old.routes
  pub positions : new.positions ≡ old.positions
  pub walks : new.walks ≡ old.walks

-- from s the reading w was reached, and r stands for it: with k events more, if it is well
pub record TripsOn (e k : ℕ) (s : TripsRead) (w : Trips) (r : Result TripsRead Refusal) (old new : Room) : Type 0 where
  pub within : w.at ≤ e
  pub arrivals : Holds s.events (s.events + k) w.t3 old.arrivals.now new.arrivals.now
  pub departures : Holds s.events (s.events + k) w.t4 old.departures.now new.departures.now
  pub all : w.bad ≡ 0 → length w.t3 ≡ s.events + k
  pub end : TripsEnd w r
  pub kept : Kept old new
  pub others : TripsOthers old new

-- ---- the routes

abbrev pub routes_of : RoutesRead → Room → Routes
routes_of s room =
    record {
      bad = 0;
      at = s.at;
      trips = s.trips;
      t1 = take s.heads room.routes.now;
      t2 = take s.positions room.positions.now;
      t3 = take s.events room.arrivals.now;
      t4 = take s.events room.departures.now;
    }

-- the reading w is well, and r stands for it
pub record RoutesWell (w : Routes) (r : RoutesRead) : Type 0 where
  pub bad : w.bad ≡ 0
  pub at : r.at ≡ w.at
  pub trips : r.trips ≡ w.trips
  pub heads : r.heads ≡ length w.t1
  pub positions : r.positions ≡ length w.t2
  pub arrivals : r.events ≡ length w.t3
  pub departures : r.events ≡ length w.t4

abbrev pub RoutesEnd : Routes → Result RoutesRead Refusal → Type 0
RoutesEnd w (Ok r) = RoutesWell w r
RoutesEnd w (Err x) = Refused w.bad w.at x

-- the number that refuses a route record of n and m, or 0: mark, "counts and totals so far, rest fits"
unfoldable pub route_bad : List ℕ → ℕ → ℕ → ℕ → RoutesRead → ℕ
route_bad f e n m s =
    cond (marked f e s.at 5 0x52 0x54)
    (cond (counted n m s.trips s.events)
    (cond (leb (s.at + 5 + n) e) 0 3)
    5)
    3

-- the record at `at` is sound where the number b is 0; else it is refused by it
abbrev pub RecordSound : ℕ → ℕ → Result ⊤ Refusal → Type 0
RecordSound b at (Ok x) = b ≡ 0
RecordSound b at (Err x) = Refused b at x

-- a route's numbers, as read, and the totals before it
pub record CountsSmall (n m trips events : ℕ) : Type 0 where
  pub n< : n < 256
  pub m< : m < 65536
  pub trips≤ : trips ≤ 512
  pub events≤ : events ≤ 2048

-- the record may be looked at
pub record RouteNear (e n m : ℕ) (s : RoutesRead) (f : List ℕ) : Type 0 where
  pub within : s.at ≤ e
  pub feed : e ≤ length f
  pub small : e < 32768
  pub counts : CountsSmall n m s.trips s.events

-- the reading is within the feed, and the tables have room for all that can come of a route
pub record RowRoom (e : ℕ) (s : RoutesRead) (f : List ℕ) (room : Room) : Type 0 where
  pub within : s.at ≤ e
  pub feed : e + 4 ≤ length f
  pub small : e < 32768
  pub trips : s.trips ≤ 512
  pub heads : s.heads + 4 ≤ 256
  pub positions : s.positions ≤ s.events
  pub events : s.events ≤ 2048
  pub long1 : 256 ≤ length room.routes.now
  pub long2 : 2048 ≤ length room.positions.now
  pub long3 : 2048 ≤ length room.arrivals.now
  pub long4 : 2048 ≤ length room.departures.now

-- the reading is within the feed, and its totals within 01's limits
pub record Limits (e : ℕ) (w : Routes) : Type 0 where
  pub within : w.at ≤ e
  pub trips : w.trips ≤ 512
  pub behind : w.bad ≡ 0 → length w.t2 ≤ length w.t3

-- tables 1 to 4 hold what w has read: no less than s, and h elements of table 1 at the most. Table 5 is as it was
pub record RoutesHeld (h : ℕ) (s : RoutesRead) (w : Routes) (old new : Room) : Type 0 where
  pub routes : Holds s.heads h w.t1 old.routes.now new.routes.now
  pub positions : Holds s.positions 2048 w.t2 old.positions.now new.positions.now
  pub arrivals : Holds s.events 2048 w.t3 old.arrivals.now new.arrivals.now
  pub departures : Holds s.events 2048 w.t4 old.departures.now new.departures.now
  pub walks : new.walks ≡ old.walks
  pub kept : Kept old new

-- from s the reading w was reached by k routes, and r stands for it
pub record RoutesOn (e k : ℕ) (s : RoutesRead) (w : Routes) (r : Result RoutesRead Refusal) (old new : Room) : Type 0 where
  pub limits : Limits e w
  pub held : RoutesHeld (s.heads + 4 * k) s w old new
  pub end : RoutesEnd w r

-- the reading at the head's end
abbrev pub no_mid : RoutesRead
no_mid = record { at = 9; trips = 0; heads = 0; positions = 0; events = 0 }

-- k routes can be read
pub record RoutesRoom (e k : ℕ) (f : List ℕ) (room : Room) : Type 0 where
  pub behind_head : 9 ≤ e
  pub feed : e + 4 ≤ length f
  pub small : e < 32768
  pub k≤ : k ≤ 64
  pub long1 : 256 ≤ length room.routes.now
  pub long2 : 2048 ≤ length room.positions.now
  pub long3 : 2048 ≤ length room.arrivals.now
  pub long4 : 2048 ≤ length room.departures.now
