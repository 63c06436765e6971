-- What was read stands in the feed: the routes.
use mathlib.Core.Path.{◌≡◌, refl, sym, ap, ◌∙◌, subst}
use mathlib.Core.List.{List, [], ◌∷◌, ◌++◌, append_assoc}
use mathlib.Core.Bool.{true}
use Prim.Native.Nat.{ℕ, zero, suc, ◌+◌, ◌*◌, ◌≤◌, ◌<◌}
use native.Mathlib.Nat.{add-zero}
use native.Mathlib.Omega.{arith}
use lib.ListN.{length, get_or, take, drop, length-append, length-drop}
use lib.Seq.{get_or-drop, take_at, drop_at}
use Rattle.laws.specs.Below.{iterate, sum_below}
use Rattle.laws.specs.Lists.{pieces, part}
use Rattle.laws.specs.Fields.{byte, two}
use Rattle.laws.proofs.Tests.{by_lt}
use Rattle.laws.proofs.Lists.{tab-take, length-pieces, part_is}
use Rattle.laws.proofs.Fields.{Has, has_nil, has_cons, has_append, has_at, has_same, part_has}
use Rattle.paper.specs.Timetable.{Tables, n_of, m_of, first_position, first_event, positions_to, trips_to, events_to}
use Rattle.paper.specs.Rules.{RouteCounts}
use Rattle.paper.specs.Feed.{trip_bytes, route_bytes, routes_bytes}
use Rattle.paper.specs.Reading.{marked, stops_at, Trips, trip_at, Routes, route_read, next_route, no_routes}
use Rattle.paper.proofs.Places.{Counted}
use Rattle.paper.proofs.Written.{length_trips}
use Rattle.paper.proofs.FeedRecords.{length_stops, length_times, Good, route_before}
use Rattle.paper.proofs.FeedTrips.{Front, front_trans, front_pushed, arrivals_of, departures_of, no_trips, trips_closed, has_two_then, has_marked, has_trips}

-- ---- one good step, in closed form, with the n and m that were read

record Step (f : List ℕ) (e n m : ℕ) (w v : Routes) : Type 0 where
  well : w.bad ≡ 0
  is_n : byte f (w.at + 2) ≡ n
  is_m : two f (w.at + 3) ≡ m
  mark : marked f e w.at 5 0x52 0x54 ≡ true
  count : Counted n m w.trips (length w.t3)
  fits : w.at + 5 + n ≤ e
  rides : (iterate m (trip_at f e n) (no_trips f e n (w.at + 5 + n) w.t3 w.t4)).bad ≡ 0
  at : v.at ≡ w.at + 5 + n + (2 + 6 * n) * m
  trips : v.trips ≡ w.trips + m
  t1 : v.t1 ≡ w.t1 ++ (n ∷ m ∷ length w.t2 ∷ length w.t3 ∷ [])
  t2 : v.t2 ≡ w.t2 ++ stops_at f (w.at + 5) n
  t3 : v.t3 ≡ w.t3 ++ pieces m (arrivals_of f e n (w.at + 5 + n) w.t3 w.t4)
  t4 : v.t4 ≡ w.t4 ++ pieces m (departures_of f e n (w.at + 5 + n) w.t3 w.t4)

step : (f : List ℕ) (e : ℕ) (w : Routes) → (next_route f e w).bad ≡ 0 → Step f e (byte f (w.at + 2)) (two f (w.at + 3)) w (next_route f e w)
unfolding next_route route_read
step f e w h =
    let n : ℕ = byte f (w.at + 2) in
    let m : ℕ = two f (w.at + 3) in
    let g : Good f e n m w = route_before f e n m w h in
    let q = g.is in
    let r : (iterate m (trip_at f e n) (no_trips f e n (w.at + 5 + n) w.t3 w.t4)).bad ≡ 0 = sym (ap (λ (x : Routes). x.bad) q) ∙ h in
    let c = trips_closed f e n (w.at + 5 + n) w.t3 w.t4 m r in
    record {
      well = g.well;
      is_n = refl;
      is_m = refl;
      mark = g.mark;
      count = g.count;
      fits = g.fits;
      rides = r;
      at = ap (λ (x : Routes). x.at) q ∙ ap (λ (x : Trips). x.at) c;
      trips = ap (λ (x : Routes). x.trips) q;
      t1 = ap (λ (x : Routes). x.t1) q;
      t2 = ap (λ (x : Routes). x.t2) q;
      t3 = ap (λ (x : Routes). x.t3) q ∙ ap (λ (x : Trips). x.t3) c;
      t4 = ap (λ (x : Routes). x.t4) q ∙ ap (λ (x : Trips). x.t4) c;
    }

-- ---- the tables so far are the fronts of the tables at the end

pub record Fronts (w : Routes) (T : Tables) : Type 0 where
  pub f1 : Front w.t1 T.t1
  pub f2 : Front w.t2 T.t2
  pub f3 : Front w.t3 T.t3
  pub f4 : Front w.t4 T.t4

fronts_back : (f : List ℕ) (e n m : ℕ) (w v : Routes) (T : Tables) → Step f e n m w v → Fronts v T → Fronts w T
fronts_back f e n m w v T s h =
    record {
      f1 = front_trans w.t1 v.t1 T.t1 (record { rest = _; is = s.t1 }) h.f1;
      f2 = front_trans w.t2 v.t2 T.t2 (record { rest = _; is = s.t2 }) h.f2;
      f3 = front_trans w.t3 v.t3 T.t3 (record { rest = _; is = s.t3 }) h.f3;
      f4 = front_trans w.t4 v.t4 T.t4 (record { rest = _; is = s.t4 }) h.f4;
    }

-- ---- what holds after k routes

pub record Upto (f : List ℕ) (T : Tables) (k : ℕ) (w : Routes) : Type 0 where
  pub at : w.at ≡ 9 + length (routes_bytes T k)
  pub has : Has f 9 (routes_bytes T k)
  pub n1 : length w.t1 ≡ k * 4
  pub n2 : length w.t2 ≡ positions_to T k
  pub n3 : length w.t3 ≡ events_to T k
  pub n4 : length w.t4 ≡ events_to T k
  pub trips : w.trips ≡ trips_to T k
  pub trips≤ : trips_to T k ≤ 512
  pub events≤ : events_to T k ≤ 2048
  pub route : (r : ℕ) → r < k → RouteCounts T r

upto_none : (f : List ℕ) (T : Tables) → Upto f T 0 no_routes
unfolding routes_bytes pieces positions_to events_to trips_to sum_below
upto_none f T =
    record {
      at = refl;
      has = has_nil f 9;
      n1 = refl;
      n2 = refl;
      n3 = refl;
      n4 = refl;
      trips = refl;
      trips≤ = omega arith;
      events≤ = omega arith;
      route = λ r l. absurd (omega arith);
    }

part_pushed : (xs zs ys : List ℕ) (k n : ℕ) → length xs ≡ k → length zs ≡ n → Front (xs ++ zs) ys → part k (k + n) ys ≡ zs
part_pushed xs zs ys k n e l h =
    part_is ys k n
    ∙ ap (λ (r : List ℕ). take n (drop k r)) (h.is ∙ append_assoc xs zs h.rest)
    ∙ ap (take n) (drop_at xs (zs ++ h.rest) k e) ∙ take_at zs h.rest n l

has_stops : (f : List ℕ) (at n : ℕ) → at + n ≤ length f → Has f at (stops_at f at n)
unfolding stops_at
has_stops f at n l =
    has_same f at _ _
    (part_is f at n ∙ sym (tab-take n (λ i. byte f (at + i)) (drop at f) 0 (simp length-drop (omega arith)) (λ i m. sym (get_or-drop at f i 0))))
    (part_has f at (at + n))

module _ (f : List ℕ) (B : (i : ℕ) → byte f i < 256) (e : ℕ) (room : e ≤ length f) (T : Tables) (k : ℕ) (w v : Routes) (u : Upto f T k w) (h : Fronts v T) where
  module _ (n m : ℕ) (s : Step f e n m w v) where
    row : (c : ℕ) → c < 4 → get_or T.t1 (k * 4 + c) 0 ≡ get_or (n ∷ m ∷ length w.t2 ∷ length w.t3 ∷ []) c 0
    row c l = front_pushed w.t1 _ T.t1 (rw s.t1 at h.f1) (k * 4) c u.n1 l

    row_n : n_of T k ≡ n
    row_n = ap (λ (i : ℕ). get_or T.t1 i 0) (sym (add-zero (k * 4))) ∙ row 0 (omega arith)

    row_m : m_of T k ≡ m
    row_m = row 1 (omega arith)

    row_p : first_position T k ≡ length w.t2
    row_p = row 2 (omega arith)

    row_v : first_event T k ≡ length w.t3
    row_v = row 3 (omega arith)

  -- at n and m as table 1 has them
  module _ (s : Step f e (n_of T k) (m_of T k) w v) where
    abbrev n : ℕ
    n = n_of T k

    abbrev m : ℕ
    m = m_of T k

    abbrev stops : List ℕ
    stops = part (first_position T k) (first_position T k + n_of T k) T.t2

    abbrev rides : List ℕ
    rides = pieces (m_of T k) (λ j. trip_bytes T (n_of T k) (first_event T k + j * n_of T k))

    stops_is : stops ≡ stops_at f (w.at + 5) n
    stops_is =
        part_pushed w.t2 (stops_at f (w.at + 5) n) T.t2 (first_position T k) n (sym (row_p n m s)) (length_stops f (w.at + 5) n) (rw s.t2 at h.f2)

    stops_long : length stops ≡ n
    stops_long = ap length stops_is ∙ length_stops f (w.at + 5) n

    rides_has : Has f (w.at + 5 + n) rides
    rides_has =
        has_trips f B T e n (w.at + 5 + n) (first_event T k) m w.t3 w.t4 room
        (sym (row_v n m s)) (omega (arith, row_v n m s, u.n3, u.n4)) s.rides (rw s.t3 at h.f3) (rw s.t4 at h.f4)

    route_has : Has f w.at (route_bytes T k)
    unfolding route_bytes
    route_has =
        let fits = s.fits in
        has_marked f B e w.at 5 0x52 0x54 _ room (omega arith) s.mark
        (has_cons f (w.at + 2) n _ (omega arith) s.is_n
        (has_at f (w.at + 3) (w.at + 2 + 1) _ (omega arith)
        (has_two_then f B (w.at + 3) m _ (omega arith) (sym s.is_m)
        (has_at f (w.at + 5) (w.at + 3 + 2) _ (omega arith)
        (has_append f (w.at + 5) stops rides
        (has_same f (w.at + 5) _ _ (sym stops_is) (has_stops f (w.at + 5) n (omega arith)))
        (has_at f _ _ rides (ap (λ (j : ℕ). w.at + 5 + j) (sym stops_long)) rides_has))))))

    route_long : length (route_bytes T k) ≡ 5 + n + (2 + 6 * n) * m
    unfolding route_bytes
    route_long = omega (arith, length-append stops rides, stops_long, length_trips T n (first_event T k) m)

    route_counts : RouteCounts T k
    route_counts =
        let c = s.count in
        record {
          n≥ = c.n≥;
          n≤ = c.n≤;
          m≥ = c.m≥;
          m≤ = c.m≤;
          first_position_is = row_p n m s ∙ u.n2;
          first_event_is = row_v n m s ∙ u.n3;
        }

    upto_step : Upto f T (suc k) v
    unfolding routes_bytes pieces positions_to events_to trips_to sum_below
    upto_step =
        record {
          at = omega (arith, s.at, u.at, length-append (routes_bytes T k) (route_bytes T k), route_long);
          has = has_append f 9 (routes_bytes T k) (route_bytes T k) u.has (has_at f _ _ _ u.at route_has);
          n1 = omega (arith, ap length s.t1, length-append w.t1 (n ∷ m ∷ length w.t2 ∷ length w.t3 ∷ []), u.n1);
          n2 = ap length s.t2 ∙ length-append w.t2 _ ∙ (λ i. u.n2 i + length_stops f (w.at + 5) n i);
          n3 = ap length s.t3 ∙ length-append w.t3 _ ∙ (λ i. u.n3 i + length-pieces m (arrivals_of f e n (w.at + 5 + n) w.t3 w.t4) n (λ j l. length_times f _ n) i);
          n4 = ap length s.t4 ∙ length-append w.t4 _ ∙ (λ i. u.n4 i + length-pieces m (departures_of f e n (w.at + 5 + n) w.t3 w.t4) n (λ j l. length_times f _ n) i);
          trips = s.trips ∙ ap (λ (t : ℕ). t + m) u.trips;
          trips≤ = rw u.trips at s.count.trips≤;
          events≤ = rw u.n3 at s.count.events≤;
          route = λ r l. by_lt r k (λ i. u.route r i) (λ i. let q : r ≡ k = omega arith in rw q route_counts);
        }

  upto_next : (n m : ℕ) → Step f e n m w v → Upto f T (suc k) v
  upto_next n m s =
      upto_step
      (subst (λ (j : ℕ). Step f e (n_of T k) j w v) (sym (row_m n m s))
      (subst (λ (i : ℕ). Step f e i m w v) (sym (row_n n m s)) s))

pub upto : (f : List ℕ) → ((i : ℕ) → byte f i < 256) → (e : ℕ) → e ≤ length f → (T : Tables) (k : ℕ)
    → (iterate k (next_route f e) no_routes).bad ≡ 0 → Fronts (iterate k (next_route f e) no_routes) T → Upto f T k (iterate k (next_route f e) no_routes)
unfolding iterate
upto f B e room T zero h g = upto_none f T
upto f B e room T (suc k) h g =
    let w : Routes = iterate k (next_route f e) no_routes in
    let s = step f e w h in
    let u = upto f B e room T k s.well (fronts_back f e _ _ w (next_route f e w) T s g) in
    upto_next f B e room T k w (next_route f e w) u g _ _ s
