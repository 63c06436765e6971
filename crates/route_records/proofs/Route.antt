-- One route record with its trips: the cases of `next_route`, and what the code leaves in each.
use mathlib.Core.Path.{◌≡◌, refl, sym, ap, ◌∙◌, subst}
use mathlib.Core.Bool.{Bool, true, false, cond}
use mathlib.Core.List.{List, [], ◌∷◌, ◌++◌}
use Prim.Native.Nat.{ℕ, ◌+◌, ◌*◌, ◌≤◌}
use native.Mathlib.Nat.{mul-le-mul_left, mul-one}
use native.Mathlib.Omega.{arith}
use lib.Dec.{eqb, leb}
use lib.ListN.{length, take, length-append}
use lib.Seq.{length-take-le}
use borrow.Author.Tests.{leb-true, eq-eqb, ne_eqb}
use Rattle.std.specs.Prelude.{Result, Ok, Err}
use Rattle.laws.specs.Below.{iterate}
use Rattle.laws.specs.Lists.{over}
use Rattle.laws.specs.Fields.{byte, two}
use Rattle.paper.specs.Rules.{counted}
use Rattle.paper.specs.Reading.{Trips, Routes, trip_at, stopped, route_read, route_at, next_route, marked, stops_at}
use Rattle.paper.specs.declared.Refusal.{Refusal}
use Rattle.paper.specs.declared.Room.{Room}
use Rattle.paper.proofs.Places.{Counted, counted_right}
use Rattle.paper.proofs.FeedRecords.{route_is, length_stops}
use Rattle.route_records.specs.Keep.{CanPut, Holds, Kept, Refused}
use Rattle.route_records.specs.State.{trips_of, TripRoom, TripsEnd, TripsOn, routes_of, RoutesEnd, Limits, RoutesHeld, RowRoom, route_bad, RoutesOn}
use Rattle.route_records.specs.declared.trips.TripsRead.{TripsRead}
use Rattle.route_records.specs.declared.RoutesRead.{RoutesRead}
use Rattle.route_records.proofs.Held.{holds_front, holds_push, holds_most}
use Rattle.route_records.proofs.Trip.{all_kept, kept_on}

-- the positions of a countable route are no more than its events
few_positions : {n m t v : ℕ} → Counted n m t v → n ≤ n * m
few_positions {n} {m} c = let u : n * 1 ≤ n * m = mul-le-mul_left n c.m≥ in omega (arith, mul-one n)

-- the tests of a route record, told by the number that they give
told : (x y z : Bool) (r w : Routes) → cond x (cond y (cond z r (stopped 3 w)) (stopped 5 w)) (stopped 3 w)
    ≡ cond (eqb (cond x (cond y (cond z 0 3) 5) 3) 0) r (stopped (cond x (cond y (cond z 0 3) 5) 3) w)
told true true true r w = refl
told true true false r w = refl
told true false z r w = refl
told false y z r w = refl

told_well : (x y z : Bool) → ◌≡◌ {A = ℕ} (cond x (cond y (cond z 0 3) 5) 3) 0 → (y ≡ true) × (z ≡ true)
told_well true true true h = (refl, refl)
told_well true true false h = absurd (omega arith)
told_well true false z h = absurd (omega arith)
told_well false y z h = absurd (omega arith)

-- the reading behind a good route of n and m, of which the trips were read
abbrev pub past_route : ℕ → ℕ → RoutesRead → Result TripsRead Refusal → Result RoutesRead Refusal
past_route n m s (Ok q) = Ok (record { at = q.at; trips = s.trips + m; heads = s.heads + 4; positions = s.positions + n; events = q.events })
past_route n m s (Err x) = Err x

as_before : {k n : ℕ} {xs d₀ d₁ d : List ℕ} → d₁ ≡ d₀ → Holds k n xs d₁ d → Holds k n xs d₀ d
as_before e h = rw (← e) h

-- n and m are what stands in the record
module _ {f : List ℕ} {room : Room} {e n m : ℕ} {s : RoutesRead} (pre : RowRoom e s f room)
    (en : n ≡ byte f (s.at + 2)) (em : m ≡ two f (s.at + 3)) where
  abbrev now : Routes
  now = routes_of s room

  next_is : next_route f e now ≡ cond (eqb (route_bad f e n m s) 0) (route_read f e n m now) (stopped (route_bad f e n m s) now)
  unfolding route_at route_bad
  next_is =
      let long3 : length (take s.events room.arrivals.now) ≡ s.events = length-take-le s.events room.arrivals.now (omega (arith, pre)) in
      route_is f e n m now (sym en) (sym em)
      ∙ simp (route_at, long3)
      (told (marked f e s.at 5 82 84) (counted n m s.trips s.events) (leb (s.at + 5 + n) e) (route_read f e n m now) now)

  -- the reading stops here
  pub route_refused : {x : Refusal} → Refused (route_bad f e n m s) s.at x → RoutesOn e 1 s (next_route f e now) (Err x) room room
  unfolding stopped
  route_refused r =
      rw (next_is, ne_eqb (route_bad f e n m s) 0 r.met)
      (record {
        limits = record { within = pre.within; trips = pre.trips; behind = λ z. absurd (r.met z) };
        held = record {
          routes = holds_front (omega arith) (omega (arith, pre));
          positions = holds_front (omega (arith, pre)) (omega (arith, pre));
          arrivals = holds_front (omega (arith, pre)) (omega (arith, pre));
          departures = holds_front (omega (arith, pre)) (omega (arith, pre));
          walks = refl;
          kept = all_kept;
        };
        end = r;
      })

  -- ---- a good route

  module _ (well : route_bad f e n m s ≡ 0) where
    passed : (counted n m s.trips s.events ≡ true) × (leb (s.at + 5 + n) e ≡ true)
    unfolding route_bad
    passed = told_well (marked f e s.at 5 82 84) (counted n m s.trips s.events) (leb (s.at + 5 + n) e) well

    fits : s.at + 5 + n ≤ e
    fits = leb-true (s.at + 5 + n) e passed.1

    counts : Counted n m s.trips s.events
    counts = counted_right n m s.trips s.events passed.0

    pub can_stops : CanPut f (s.at + 5) n room.positions.now s.positions n
    can_stops =
        record {
          small = omega (arith, pre, fits);
          there = omega (arith, pre, fits);
          room = omega (arith, pre, counts, few_positions counts);
        }

    abbrev start : TripsRead
    start = record { at = s.at + 5 + n; events = s.events }

    next_read : next_route f e now ≡ route_read f e n m now
    next_read = next_is ∙ simp (eq-eqb (route_bad f e n m s) 0 well)

    abbrev trips : Trips
    trips = iterate m (trip_at f e n) (trips_of start room)

    front1 : length (take s.heads room.routes.now) ≡ s.heads
    front1 = length-take-le s.heads room.routes.now (omega (arith, pre))

    front2 : length (take s.positions room.positions.now) ≡ s.positions
    front2 = length-take-le s.positions room.positions.now (omega (arith, pre))

    front3 : length (take s.events room.arrivals.now) ≡ s.events
    front3 = length-take-le s.events room.arrivals.now (omega (arith, pre))

    row : length (take s.heads room.routes.now ++ (n ∷ m ∷ s.positions ∷ s.events ∷ [])) ≡ s.heads + 4
    row = length-append (take s.heads room.routes.now) (n ∷ m ∷ s.positions ∷ s.events ∷ []) ∙ ap (λ (k : ℕ). k + 4) front1

    stops : length (take s.positions room.positions.now ++ stops_at f (s.at + 5) n) ≡ s.positions + n
    stops = omega (arith, length-append (take s.positions room.positions.now) (stops_at f (s.at + 5) n), front2, length_stops f (s.at + 5) n)

    route_end : (r : Result TripsRead Refusal) → TripsEnd trips r → RoutesEnd (route_read f e n m now) (past_route n m s r)
    unfolding route_read
    route_end (Ok q) x =
        simp (front2, front3)
        (record {
          bad = x.bad;
          at = x.at;
          trips = refl;
          heads = sym row;
          positions = sym stops;
          arrivals = x.arrivals;
          departures = x.departures;
        })
    route_end (Err y) x = x

    -- the row and the stops are put, the other tables are as they were, and the trips are read
    module _ {mid : Room} (ea : mid.arrivals ≡ room.arrivals) (ed : mid.departures ≡ room.departures) where
      pub can_trips : TripRoom e n (n * m) start f mid
      can_trips =
          record {
            within = fits;
            feed = omega (arith, pre);
            small = pre.small;
            n≤ = counts.n≤;
            long3 = rw ea (omega (arith, pre, counts));
            long4 = rw ed (omega (arith, pre, counts));
          }

      module _ (eh : mid.routes.now ≡ over (take s.heads room.routes.now ++ (n ∷ m ∷ s.positions ∷ s.events ∷ [])) room.routes.now)
          (ep : mid.positions.now ≡ over (take s.positions room.positions.now ++ stops_at f (s.at + 5) n) room.positions.now)
          (ew : mid.walks ≡ room.walks) (kept : Kept room mid) {new : Room} {r : Result TripsRead Refusal}
          (g : TripsOn e (n * m) start (iterate m (trip_at f e n) (trips_of start mid)) r mid new) where
        read : TripsOn e (n * m) start trips r mid new
        read =
            let t : trips_of start mid ≡ trips_of start room
            = λ i. record { bad = 0; at = s.at + 5 + n; t3 = take s.events (ea i).now; t4 = take s.events (ed i).now } in
            subst (λ (w : Trips). TripsOn e (n * m) start (iterate m (trip_at f e n) w) r mid new) t g

        route_limits : Limits e (route_read f e n m now)
        unfolding route_read
        route_limits =
            record {
              within = read.within;
              trips = counts.trips≤;
              behind = λ z. omega (arith, stops, read.all z, few_positions counts, pre.positions);
            }

        route_held : RoutesHeld (s.heads + 4 * 1) s (route_read f e n m now) room new
        unfolding route_read
        route_held =
            simp (front2, front3)
            (record {
              routes = holds_push (n ∷ m ∷ s.positions ∷ s.events ∷ []) (omega (arith, pre)) (omega arith) ((λ i. (read.others.routes i).now) ∙ eh);
              positions = holds_push (stops_at f (s.at + 5) n) (omega (arith, length_stops f (s.at + 5) n, pre, counts, few_positions counts))
                  (omega (arith, length_stops f (s.at + 5) n, pre, counts, few_positions counts)) ((λ i. (read.others.positions i).now) ∙ ep);
              arrivals = as_before (λ i. (ea i).now) (holds_most (omega (arith, counts)) read.arrivals);
              departures = as_before (λ i. (ed i).now) (holds_most (omega (arith, counts)) read.departures);
              walks = read.others.walks ∙ ew;
              kept = kept_on kept read.kept;
            })

        pub route_done : RoutesOn e 1 s (next_route f e now) (past_route n m s r) room new
        route_done = rw next_read (record { limits = route_limits; held = route_held; end = route_end r read.end })
