-- What was written is read back: reading the feed of a sound timetable gives that timetable.
use mathlib.Core.Path.{◌≡◌, refl, sym, ap, ◌∙◌, subst}
use mathlib.Core.List.{List, [], ◌∷◌, ◌++◌, append-nil}
use mathlib.Core.Bool.{true, cond}
use Rattle.std.specs.Prelude.{None}
use Prim.Native.Nat.{ℕ, zero, suc, ◌+◌, ◌*◌, ◌-◌, ◌≤◌, ◌<◌}
use native.Mathlib.Nat.{le_refl}
use native.Mathlib.Omega.{arith}
use lib.ListN.{length, get_or, take, drop, length-append}
use lib.Seq.{take-add, take_all, take_at, length-take-le}
use lib.Dec.{eqb}
use borrow.Author.Tests.{le-leb, eq-eqb}
use Rattle.laws.specs.Below.{iterate, sum_below}
use Rattle.laws.specs.Lists.{pieces, part}
use Rattle.laws.specs.Fields.{byte, two, two_bytes}
use Rattle.laws.proofs.Below.{sum_below_at, sum_below_mono}
use Rattle.laws.proofs.Lists.{length-part_of, part_is, length-pieces-sum}
use Rattle.laws.proofs.Fields.{Has, has_left, has_right, has_at, has_byte, has_first, has_piece, has_equal_piece, read2}
use Rattle.paper.specs.Timetable.{Tables, n_of, m_of, first_position, first_event, positions_to, trips_to, events_to, walk_from, walk_to, walk_seconds}
use Rattle.paper.specs.Rules.{Sound, counted, first_broken, whole_rules}
use Rattle.paper.specs.Feed.{trip_bytes, route_bytes, walk_bytes, routes_bytes, walks_bytes, size_of, head_bytes, summed, fletcher_of, feed_of}
use Rattle.paper.specs.Reading.{Accepted, stops_at, Trips, trip_at, Routes, route_read, next_route, no_routes, Walks, next_walk, Whole, ended, records_of, head_bad, whole_of, tables_in, length_right, sum_right, judged, body_of, read_of}
use Rattle.paper.proofs.Places.{counted_whole}
use Rattle.paper.proofs.Checks.{route_of_lem}
use Rattle.paper.proofs.Written.{Counts, sound_counts, length_route, length_walk, length_walks, length_routes_next, size_is, counts_longest}
use Rattle.paper.proofs.FeedRecords.{marked_is, route_is, route_good, walk_good}
use Rattle.paper.proofs.TripsBack.{trips_read, take_four, take-three, stops_are}
use Rattle.paper.specs.Demands.{Exact}

-- ---- the routes

module _ (T : Tables) (C : Counts T) (E : Exact T) where
  -- the walk after k routes
  unfoldable prefix : ℕ → Routes
  prefix k =
      record {
        bad = 0;
        at = 9 + length (routes_bytes T k);
        trips = trips_to T k;
        t1 = take (k * 4) T.t1;
        t2 = take (positions_to T k) T.t2;
        t3 = take (events_to T k) T.t3;
        t4 = take (events_to T k) T.t4;
      }

  positions_at : (r : ℕ) → r < T.routes → positions_to T r + n_of T r ≤ positions_to T T.routes
  unfolding positions_to
  positions_at r l = sum_below_at T.routes r (n_of T) l

  events_at : (r : ℕ) → r < T.routes → events_to T r + n_of T r * m_of T r ≤ events_to T T.routes
  unfolding events_to
  events_at r l = sum_below_at T.routes r (λ r. n_of T r * m_of T r) l

  trips_at : (r : ℕ) → r < T.routes → trips_to T r + m_of T r ≤ trips_to T T.routes
  unfolding trips_to
  trips_at r l = sum_below_at T.routes r (m_of T) l

  routes_mono : (k : ℕ) → k ≤ T.routes → length (routes_bytes T k) ≤ length (routes_bytes T T.routes)
  unfolding routes_bytes
  routes_mono k l = rw (length-pieces-sum k (route_bytes T), length-pieces-sum T.routes (route_bytes T)) (sum_below_mono k T.routes _ l)

  stops_fit : (r : ℕ) → r < T.routes → first_position T r + n_of T r ≤ length T.t2
  stops_fit r l = omega (arith, (C.route r l).first_position_is, positions_at r l, E.positions)

  module _ (f : List ℕ) (e : ℕ) (room : 9 + length (routes_bytes T T.routes) ≤ e) (has : Has f 9 (routes_bytes T T.routes)) where
    route_at_lem : (r : ℕ) → r < T.routes → Has f (9 + length (routes_bytes T r)) (route_bytes T r)
    unfolding routes_bytes
    route_at_lem r l = has_piece f 9 T.routes (route_bytes T) r l has

    route_reads : (r : ℕ) → r < T.routes → next_route f e (prefix r) ≡ prefix (suc r)
    unfolding prefix route_read route_bytes positions_to events_to trips_to sum_below
    route_reads r l =
        let R = C.route r l in
        let n : ℕ = n_of T r in
        let m : ℕ = m_of T r in
        let at : ℕ = 9 + length (routes_bytes T r) in
        let stops : List ℕ = part (first_position T r) (first_position T r + n_of T r) T.t2 in
        let h = route_at_lem r l in
        let h5 = has_left f at (0x52 ∷ 0x54 ∷ n ∷ two_bytes m) _ h in
        let hs = has_right f at (0x52 ∷ 0x54 ∷ n ∷ two_bytes m) _ h in
        let ht = has_right f (at + 5) stops _ hs in
        let ls : length stops ≡ n = length-part_of T.t2 (first_position T r) n (stops_fit r l) in
        let pa = positions_at r l in
        let va = events_at r l in
        let ta = trips_at r l in
        let rm = routes_mono (suc r) l in
        let rs = length_routes_next T r in
        let lr = length_route T r (stops_fit r l) in
        let l2 : length (take (positions_to T r) T.t2) ≡ positions_to T r = length-take-le _ T.t2 (omega (arith, E.positions)) in
        let l3 : length (take (events_to T r) T.t3) ≡ events_to T r = length-take-le _ T.t3 (omega (arith, E.arrivals)) in
        let g : counted n m (trips_to T r) (length (take (events_to T r) T.t3)) ≡ true = rw l3 (counted_whole n m _ _ (route_of_lem T C r l).counts) in
        let hv : Has f (at + 5 + n) (pieces m (λ j. trip_bytes T n (events_to T r + j * n)))
        = subst (λ (v : ℕ). Has f (at + 5 + n) (pieces m (λ j. trip_bytes T n (v + j * n)))) R.first_event_is (has_at f _ _ _ (ap (λ (k : ℕ). at + 5 + k) ls) ht) in
        let q : iterate m (trip_at f e n) (record { bad = 0; at = at + 5 + n; t3 = take (events_to T r) T.t3; t4 = take (events_to T r) T.t4 })
        ≡ record { bad = 0; at = at + 5 + n + (2 + 6 * n) * m; t3 = take (events_to T r + m * n) T.t3; t4 = take (events_to T r + m * n) T.t4 }
        = trips_read T f e n (events_to T r) m (at + 5 + n) hv (omega arith) (omega (arith, E.arrivals)) (omega (arith, E.departures)) m (le_refl m) in
        let ea : at + 5 + n + (2 + 6 * n) * m ≡ 9 + length (routes_bytes T (suc r)) = omega arith in
        let ev : events_to T r + m * n ≡ events_to T (suc r) = omega arith in
        let a : length (take (positions_to T r) T.t2) ≡ first_position T r = l2 ∙ sym R.first_position_is in
        let b : length (take (events_to T r) T.t3) ≡ first_event T r = l3 ∙ sym R.first_event_is in
        let four : r * 4 + 4 ≡ suc r * 4 = omega arith in
        let e1 : take (r * 4) T.t1 ++ (n ∷ m ∷ length (take (positions_to T r) T.t2) ∷ length (take (events_to T r) T.t3) ∷ []) ≡ take (suc r * 4) T.t1
        = (λ i. take (r * 4) T.t1 ++ (n ∷ m ∷ a i ∷ b i ∷ [])) ∙ take_four T.t1 (r * 4) (omega (arith, E.routes)) ∙ ap (λ (k : ℕ). take k T.t1) four in
        let e2 : take (positions_to T r) T.t2 ++ stops_at f (at + 5) n ≡ take (positions_to T (suc r)) T.t2
        = ap (λ (x : List ℕ). take (positions_to T r) T.t2 ++ x) (stops_are f (at + 5) stops n ls (has_left f (at + 5) stops _ hs) ∙ part_is T.t2 (first_position T r) n)
        ∙ ap (λ (k : ℕ). take (positions_to T r) T.t2 ++ take n (drop k T.t2)) R.first_position_is
        ∙ sym (take-add (positions_to T r) n T.t2) in
        route_is f e n m (prefix r) (has_byte f at _ h5 2 (omega arith)) (read2 f (at + 3) m (has_right f at (0x52 ∷ 0x54 ∷ n ∷ []) (two_bytes m) h5))
        ∙ route_good f e n m (prefix r) refl (marked_is f e at 5 0x52 0x54 _ h5 (omega arith)) g (omega arith)
        ∙ (λ i. record {
          bad = (q i).bad;
          at = (ap (λ (x : Trips). x.at) q ∙ ea) i;
          trips = trips_to T (suc r);
          t1 = e1 i;
          t2 = e2 i;
          t3 = (ap (λ (x : Trips). x.t3) q ∙ ap (λ (k : ℕ). take k T.t3) ev) i;
          t4 = (ap (λ (x : Trips). x.t4) q ∙ ap (λ (k : ℕ). take k T.t4) ev) i;
        })

    routes_read : (k : ℕ) → k ≤ T.routes → iterate k (next_route f e) no_routes ≡ prefix k
    unfolding iterate prefix routes_bytes pieces trips_to positions_to events_to sum_below
    routes_read zero l = refl
    routes_read (suc k) l = ap (next_route f e) (routes_read k (omega arith)) ∙ route_reads k l

  -- ---- the walks

  walks_read : (f : List ℕ) (e base : ℕ) → base + 6 * T.walks ≤ e → Has f base (walks_bytes T T.walks) → (k : ℕ) → k ≤ T.walks
      → iterate k (next_walk f e) (record { bad = 0; at = base; t5 = [] }) ≡ record { bad = 0; at = base + 6 * k; t5 = take (k * 3) T.t5 }
  unfolding iterate walks_bytes walk_bytes
  walks_read f e base room has zero l =
      let a : base ≡ base + 6 * 0 = omega arith in
      λ i. record { bad = 0; at = a i; t5 = [] }
  walks_read f e base room has (suc k) l =
      let at : ℕ = base + 6 * k in
      let h : Has f at (walk_bytes T k) = has_equal_piece f base 6 T.walks (walk_bytes T) (λ w l. length_walk T w) k l has in
      let ex : byte f (at + 2) ≡ walk_from T k = has_byte f at _ h 2 (omega arith) in
      let ey : byte f (at + 3) ≡ walk_to T k = has_byte f at _ h 3 (omega arith) in
      let ez : two f (at + 4) ≡ walk_seconds T k = read2 f (at + 4) _ (has_right f at (0x57 ∷ 0x4B ∷ walk_from T k ∷ walk_to T k ∷ []) (two_bytes (walk_seconds T k)) h) in
      let ea : at + 6 ≡ base + 6 * suc k = omega arith in
      let three : k * 3 + 3 ≡ suc k * 3 = omega arith in
      ap (next_walk f e) (walks_read f e base room has k (omega arith))
      ∙ walk_good f e _ refl (marked_is f e at 6 0x57 0x4B _ h (omega arith))
      ∙ (λ i. record {
        bad = 0;
        at = ea i;
        t5 = ((λ j. take (k * 3) T.t5 ++ (ex j ∷ ey j ∷ ez j ∷ [])) ∙ take-three T.t5 (k * 3) (omega (arith, E.walks)) ∙ ap (λ (n : ℕ). take n T.t5) three) i;
      })

  -- ---- the feed, part by part

  length_feed : length (feed_of T) ≡ 13 + length (routes_bytes T T.routes) + 6 * T.walks
  unfolding size_of
  length_feed = omega (arith, size_is T, length_walks T T.walks)

  has_summed : Has (feed_of T) 0 (summed T)
  unfolding feed_of
  has_summed = record { rest = (fletcher_of (summed T)).first ∷ (fletcher_of (summed T)).second ∷ []; is = refl }

  has_head : Has (feed_of T) 0 (head_bytes T)
  unfolding summed
  has_head = has_left (feed_of T) 0 (head_bytes T) _ has_summed

  has_body : Has (feed_of T) 9 (routes_bytes T T.routes ++ (walks_bytes T T.walks ++ (0x45 ∷ 0x44 ∷ [])))
  unfolding summed
  has_body = has_right (feed_of T) 0 (head_bytes T) _ has_summed

  has_walks : Has (feed_of T) (9 + length (routes_bytes T T.routes)) (walks_bytes T T.walks)
  has_walks = has_left (feed_of T) _ (walks_bytes T T.walks) _ (has_right (feed_of T) 9 (routes_bytes T T.routes) _ has_body)

  has_end : Has (feed_of T) (9 + length (routes_bytes T T.routes) + 6 * T.walks) (0x45 ∷ 0x44 ∷ [])
  has_end =
      has_at (feed_of T) _ _ _ (ap (λ (n : ℕ). 9 + length (routes_bytes T T.routes) + n) (length_walks T T.walks))
      (has_right (feed_of T) _ (walks_bytes T T.walks) _ (has_right (feed_of T) 9 (routes_bytes T T.routes) _ has_body))

  -- the head's fields
  head_byte : (i : ℕ) → i < 9 → byte (feed_of T) i ≡ get_or (head_bytes T) i 0
  head_byte i l = let z : i ≡ 0 + i = omega arith in ap (λ (k : ℕ). byte (feed_of T) k) z ∙ has_byte (feed_of T) 0 (head_bytes T) has_head i l

  walks_field : two (feed_of T) 5 ≡ T.walks
  walks_field =
      read2 (feed_of T) 5 T.walks
      (has_left (feed_of T) 5 (two_bytes T.walks) (two_bytes (size_of T)) (has_right (feed_of T) 0 (0x54 ∷ 0x48 ∷ 1 ∷ (T.stops - 1) ∷ T.routes ∷ []) _ has_head))

  length_field : two (feed_of T) 7 ≡ size_of T
  length_field =
      read2 (feed_of T) 7 (size_of T)
      (has_right (feed_of T) 0 (0x54 ∷ 0x48 ∷ 1 ∷ (T.stops - 1) ∷ T.routes ∷ two_bytes T.walks) (two_bytes (size_of T)) has_head)

  -- ---- the tests

  length_right_lem : length_right (feed_of T) ≡ true
  unfolding length_right
  length_right_lem =
      simp (
        le-leb 13 (length (feed_of T)) (omega (arith, length_feed)),
        le-leb (length (feed_of T)) 17869 (counts_longest T C),
        eq-eqb (two (feed_of T) 7) (length (feed_of T)) (length_field ∙ size_is T),
      )

  sum_right_lem : sum_right (feed_of T) ≡ true
  unfolding sum_right feed_of
  sum_right_lem =
      let sums : List ℕ = (fletcher_of (summed T)).first ∷ (fletcher_of (summed T)).second ∷ [] in
      let k : length (summed T) ≡ length (feed_of T) - 2 = omega (arith, length-append (summed T) sums) in
      let t : take (length (feed_of T) - 2) (feed_of T) ≡ summed T = take_at (summed T) _ (length (feed_of T) - 2) k in
      let h : Has (feed_of T) (0 + length (summed T)) sums = has_right (feed_of T) 0 (summed T) sums (record { rest = []; is = sym (append-nil (feed_of T)) }) in
      let z : 0 + length (summed T) ≡ length (feed_of T) - 2 = omega arith in
      let one : length (feed_of T) - 2 + 1 ≡ length (feed_of T) - 1 = omega (arith, length_feed) in
      let h' = has_at (feed_of T) _ _ _ z h in
      let b : byte (feed_of T) (length (feed_of T) - 1) ≡ (fletcher_of (summed T)).second
      = ap (λ (k : ℕ). byte (feed_of T) k) (sym one) ∙ has_byte (feed_of T) (length (feed_of T) - 2) sums h' 1 (omega arith) in
      simp (t, eq-eqb _ _ (has_first (feed_of T) (length (feed_of T) - 2) _ _ h'), eq-eqb _ _ b)

  head_right : head_bad (feed_of T) ≡ 0
  unfolding head_bad
  head_right =
      simp (
        eq-eqb _ _ (head_byte 0 (omega arith)),
        eq-eqb _ _ (head_byte 1 (omega arith)),
        eq-eqb _ _ (head_byte 2 (omega arith)),
        le-leb (byte (feed_of T) 4) 64 (omega (arith, head_byte 4 (omega arith), C.routes≤)),
        le-leb (two (feed_of T) 5) 512 (omega (arith, walks_field, C.walks≤)),
      )

  end_right : ended (feed_of T) (9 + length (routes_bytes T T.routes) + 6 * T.walks) ≡ true
  unfolding ended
  end_right =
      simp (
        eq-eqb (9 + length (routes_bytes T T.routes) + 6 * T.walks + 4) (length (feed_of T)) (omega (arith, length_feed)),
        marked_is (feed_of T) (length (feed_of T)) (9 + length (routes_bytes T T.routes) + 6 * T.walks) 4 0x45 0x44 [] has_end (omega (arith, length_feed)),
      )

  -- ---- all of it

  whole_is : whole_of (feed_of T) ≡ record { bad = 0; at = 9 + length (routes_bytes T T.routes) + 6 * T.walks; t1 = T.t1; t2 = T.t2; t3 = T.t3; t4 = T.t4; t5 = T.t5 }
  unfolding whole_of records_of prefix
  whole_is =
      let f : List ℕ = feed_of T in
      let e : ℕ = length (feed_of T) - 4 in
      let end : ℕ = 9 + length (routes_bytes T T.routes) + 6 * T.walks in
      let R : iterate T.routes (next_route f e) no_routes ≡ prefix T.routes
      = routes_read f e (omega (arith, length_feed)) (has_left f 9 (routes_bytes T T.routes) _ has_body) T.routes (le_refl T.routes) in
      let W : iterate T.walks (next_walk f e) (record { bad = 0; at = 9 + length (routes_bytes T T.routes); t5 = [] }) ≡ record { bad = 0; at = end; t5 = take (T.walks * 3) T.t5 }
      = walks_read f e (9 + length (routes_bytes T T.routes)) (omega (arith, length_feed)) has_walks T.walks (le_refl T.walks) in
      let last : Routes → Walks → Whole
      = λ r w. record {
        bad = cond (eqb w.bad 0) (cond (ended f w.at) 0 3) w.bad;
        at = w.at;
        t1 = r.t1;
        t2 = r.t2;
        t3 = r.t3;
        t4 = r.t4;
        t5 = w.t5;
      } in
      let body : Routes → Whole = λ r. last r (iterate T.walks (next_walk f e) (record { bad = r.bad; at = r.at; t5 = [] })) in
      simp (head_right)
      ((λ i. records_of f (head_byte 4 (omega arith) i) (walks_field i))
      ∙ ap body R ∙ ap (last (prefix T.routes)) W
      ∙ (λ i. record {
        bad = cond (eqb 0 0) (cond (end_right i) 0 3) 0;
        at = end;
        t1 = take_all (T.routes * 4) T.t1 (omega (arith, E.routes)) i;
        t2 = take_all (positions_to T T.routes) T.t2 (omega (arith, E.positions)) i;
        t3 = take_all (events_to T T.routes) T.t3 (omega (arith, E.arrivals)) i;
        t4 = take_all (events_to T T.routes) T.t4 (omega (arith, E.departures)) i;
        t5 = take_all (T.walks * 3) T.t5 (omega (arith, E.walks)) i;
      }))

  tables_are : tables_in (feed_of T) ≡ T
  unfolding tables_in
  tables_are =
      let s : byte (feed_of T) 3 + 1 ≡ T.stops = omega (arith, head_byte 3 (omega arith), C.stops≥) in
      let w = whole_is in
      λ i. record {
        stops = s i;
        routes = head_byte 4 (omega arith) i;
        walks = walks_field i;
        t1 = (w i).t1;
        t2 = (w i).t2;
        t3 = (w i).t3;
        t4 = (w i).t4;
        t5 = (w i).t5;
      }

  -- before rules 7 to 11, the counts are enough: the feed's body is judged as the timetable itself
  pub read_judged : read_of (feed_of T) ≡ judged T (first_broken whole_rules T)
  unfolding read_of body_of
  read_judged =
      simp (length_right_lem, sum_right_lem, eq-eqb (whole_of (feed_of T)).bad 0 (ap (λ (w : Whole). w.bad) whole_is))
      (ap (λ (t : Tables). judged t (first_broken whole_rules t)) tables_are)

-- reading the feed of a sound timetable gives that timetable
pub read_feed : (T : Tables) → Sound T → Exact T → first_broken whole_rules T ≡ None → read_of (feed_of T) ≡ Accepted T
unfolding judged
read_feed T s E h = read_judged T (sound_counts s) E ∙ ap (judged T) h
