-- "Elements beyond the used part are not read": tables that agree on the used parts are refused alike, and have the same feed and work limit.
use mathlib.Core.Path.{◌≡◌, sym, ap, ◌∙◌}
use mathlib.Core.Bool.{Bool, not, ◌&&◌, ◌||◌}
use mathlib.Core.List.{List, [], ◌∷◌, ◌++◌}
use Rattle.std.specs.Prelude.{Option, Some, None}
use Prim.Native.Nat.{ℕ, ◌+◌, ◌*◌, ◌-◌, ◌≤◌, ◌<◌}
use native.Mathlib.Omega.{arith}
use lib.ListN.{length, get_or}
use lib.Seq.{ext_get_or}
use lib.Dec.{eqb, leb, ltb}
use Rattle.laws.specs.Below.{any_below, or_else, given, first_found}
use Rattle.laws.specs.Lists.{part, pieces}
use Rattle.laws.specs.Fields.{two_bytes, three_bytes}
use Rattle.laws.proofs.Tests.{cell_in}
use Rattle.laws.proofs.Below.{sum_below_same, sum_below_at, any_below_same}
use Rattle.laws.proofs.Found.{first_found_same}
use Rattle.laws.proofs.Lists.{get_d_part, length-part_of, pieces_same}
use Rattle.paper.specs.Timetable.{Tables, n_of, m_of, first_position, first_event, positions_to, trips_to, events_to, walk_from, walk_to, walk_seconds, route_of}
use Rattle.paper.specs.Rules.{lowest_of, heads_broken, counted, route_broken, stop_broken, time_broken, overtakes, event_of, lowest_time, lowest_overtaken, rises, walk_broken, within, gap, opens, count_rules, whole_rules, refused_by, first_broken, fault_of}
use Rattle.paper.specs.Feed.{event_bytes, trip_bytes, route_bytes, walk_bytes, routes_bytes, walks_bytes, size_of, summed, fletcher_of, feed_of}
use Rattle.paper.specs.Work.{limit_of}
use Rattle.paper.proofs.Written.{Counts}

-- two lists have the same first k elements, and both have them all
pub record Same (k : ℕ) (t u : List ℕ) : Type 0 where
  pub each : (i : ℕ) → i < k → get_or t i 0 ≡ get_or u i 0
  pub long : k ≤ length t
  pub other : k ≤ length u

pub record Agree (T U : Tables) : Type 0 where
  pub stops : T.stops ≡ U.stops
  pub routes : T.routes ≡ U.routes
  pub walks : T.walks ≡ U.walks
  pub same1 : Same (T.routes * 4) T.t1 U.t1
  pub same2 : Same (positions_to T T.routes) T.t2 U.t2
  pub same3 : Same (events_to T T.routes) T.t3 U.t3
  pub same4 : Same (events_to T T.routes) T.t4 U.t4
  pub same5 : Same (T.walks * 3) T.t5 U.t5

part_same : (k a n : ℕ) {t u : List ℕ} → Same k t u → a + n ≤ k → part a (a + n) t ≡ part a (a + n) u
part_same k a n {t} {u} h l =
    let e = length-part_of t a n (omega (arith, h.long)) in
    let g = length-part_of u a n (omega (arith, h.other)) in
    ext_get_or 0 (part a (a + n) t) (part a (a + n) u) (e ∙ sym g)
    (λ i b. get_d_part t a (a + n) i 0 (omega arith) ∙ h.each (a + i) (omega arith) ∙ sym (get_d_part u a (a + n) i 0 (omega arith)))

module _ {T U : Tables} (A : Agree T U) where
  -- ---- counts

  n_same : (r : ℕ) → r < T.routes → n_of T r ≡ n_of U r
  n_same r l = A.same1.each (r * 4) (omega arith)

  m_same : (r : ℕ) → r < T.routes → m_of T r ≡ m_of U r
  m_same r l = A.same1.each (r * 4 + 1) (omega arith)

  p_same : (r : ℕ) → r < T.routes → first_position T r ≡ first_position U r
  p_same r l = A.same1.each (r * 4 + 2) (omega arith)

  v_same : (r : ℕ) → r < T.routes → first_event T r ≡ first_event U r
  v_same r l = A.same1.each (r * 4 + 3) (omega arith)

  positions_same : (k : ℕ) → k ≤ T.routes → positions_to T k ≡ positions_to U k
  unfolding positions_to
  positions_same k h = sum_below_same k (n_of T) (n_of U) (λ r l. n_same r (omega arith))

  trips_same : (k : ℕ) → k ≤ T.routes → trips_to T k ≡ trips_to U k
  unfolding trips_to
  trips_same k h = sum_below_same k (m_of T) (m_of U) (λ r l. m_same r (omega arith))

  events_same : (k : ℕ) → k ≤ T.routes → events_to T k ≡ events_to U k
  unfolding events_to
  events_same k h =
      sum_below_same k (λ r. n_of T r * m_of T r) (λ r. n_of U r * m_of U r) (λ r l i. n_same r (omega arith) i * m_same r (omega arith) i)

  all_positions : positions_to T T.routes ≡ positions_to U U.routes
  all_positions = positions_same T.routes (omega arith) ∙ ap (positions_to U) A.routes

  all_trips : trips_to T T.routes ≡ trips_to U U.routes
  all_trips = trips_same T.routes (omega arith) ∙ ap (trips_to U) A.routes

  pub agree_limit : limit_of T ≡ limit_of U
  unfolding limit_of
  agree_limit = λ i. 8 * (all_positions i - A.routes i + all_trips i + A.walks i)

  -- a search over the same numbers that finds the same
  found_same : {k l : ℕ} (f g : ℕ → Option ℕ) → k ≡ l → ((i : ℕ) → i < k → f i ≡ g i) → first_found k f ≡ first_found l g
  found_same {k} f g e h = first_found_same k f g h ∙ ap (λ (n : ℕ). first_found n g) e

  heads_same : heads_broken T ≡ heads_broken U
  unfolding heads_broken
  heads_same = λ i. ltb (A.stops i) 1 || ltb 256 (A.stops i) || ltb 64 (A.routes i) || ltb 512 (A.walks i)

  route_broken_same : (r : ℕ) → r < T.routes → route_broken T r ≡ route_broken U r
  unfolding route_broken
  route_broken_same r l =
      let k : r ≤ T.routes = omega arith in
      λ i. not (counted (n_same r l i) (m_same r l i) (trips_same r k i) (events_same r k i)
      && eqb (p_same r l i) (positions_same r k i)
      && eqb (v_same r l i) (events_same r k i))

  routes_same : lowest_of T.routes (route_broken T) ≡ lowest_of U.routes (route_broken U)
  unfolding lowest_of
  routes_same = found_same _ _ A.routes (λ r l i. given (route_broken_same r l i) (Some r))

  pub agree_counts : first_broken count_rules T ≡ first_broken count_rules U
  unfolding first_broken
  agree_counts = λ i. or_else (refused_by 5 (given (heads_same i) (Some 64))) (or_else (refused_by 5 (routes_same i)) None)

  -- ---- stops and walks

  stops_same : lowest_of (positions_to T T.routes) (stop_broken T) ≡ lowest_of (positions_to U U.routes) (stop_broken U)
  unfolding lowest_of stop_broken
  stops_same = found_same _ _ all_positions (λ p l i. given (not (ltb (A.same2.each p l i) (A.stops i))) (Some p))

  from_same : (w : ℕ) → w < T.walks → walk_from T w ≡ walk_from U w
  from_same w l = A.same5.each (w * 3) (omega arith)

  to_same : (w : ℕ) → w < T.walks → walk_to T w ≡ walk_to U w
  to_same w l = A.same5.each (w * 3 + 1) (omega arith)

  seconds_same : (w : ℕ) → w < T.walks → walk_seconds T w ≡ walk_seconds U w
  seconds_same w l = A.same5.each (w * 3 + 2) (omega arith)

  walk_same : (w : ℕ) → w < T.walks → walk_broken T w ≡ walk_broken U w
  unfolding walk_broken rises
  walk_same w l =
      let k : w - 1 < T.walks = omega arith in
      λ i. not (ltb (from_same w l i) (A.stops i))
      || not (ltb (to_same w l i) (A.stops i))
      || eqb (from_same w l i) (to_same w l i)
      || ltb (seconds_same w l i) 1
      || ltb 3600 (seconds_same w l i)
      || ltb 0 w && not (ltb (from_same (w - 1) k i) (from_same w l i) || eqb (from_same (w - 1) k i) (from_same w l i) && ltb (to_same (w - 1) k i) (to_same w l i))

  walks_same : lowest_of T.walks (walk_broken T) ≡ lowest_of U.walks (walk_broken U)
  unfolding lowest_of
  walks_same = found_same _ _ A.walks (λ w l i. given (walk_same w l i) (Some w))

  some_same : {k l : ℕ} (p q : ℕ → Bool) → k ≡ l → ((i : ℕ) → i < k → p i ≡ q i) → any_below k p ≡ any_below l q
  some_same {k} p q e h = any_below_same k p q h ∙ ap (λ (n : ℕ). any_below n q) e

  gap_same : (v : ℕ) → v < T.walks → (w : ℕ) → w < T.walks → gap T v w ≡ gap U v w
  unfolding gap within
  gap_same v k w l =
      let x : any_below T.walks (within T (walk_from T v) (walk_to T w) (walk_seconds T v + walk_seconds T w))
      ≡ any_below U.walks (within U (walk_from U v) (walk_to U w) (walk_seconds U v + walk_seconds U w))
      = some_same _ _ A.walks
      (λ z b i. eqb (from_same z b i) (from_same v k i) && eqb (to_same z b i) (to_same w l i) && leb (seconds_same z b i) (seconds_same v k i + seconds_same w l i)) in
      λ i. eqb (from_same w l i) (to_same v k i) && not (eqb (to_same w l i) (from_same v k i)) && not (x i)

  opens_same : lowest_of T.walks (opens T) ≡ lowest_of U.walks (opens U)
  unfolding lowest_of opens
  opens_same = found_same _ _ A.walks (λ v l i. given (some_same (gap T v) (gap U v) A.walks (gap_same v l) i) (Some v))

  -- ---- routes

  module _ (C : Counts T) where
    positions_in : (r : ℕ) → r < T.routes → first_position T r + n_of T r ≤ positions_to T T.routes
    unfolding positions_to
    positions_in r l = omega (arith, (C.route r l).first_position_is, sum_below_at T.routes r (n_of T) l)

    events_in : (r : ℕ) → r < T.routes → first_event T r + n_of T r * m_of T r ≤ events_to T T.routes
    unfolding events_to
    events_in r l = omega (arith, (C.route r l).first_event_is, sum_below_at T.routes r (λ r. n_of T r * m_of T r) l)

    part2_same : (r : ℕ) → r < T.routes
        → part (first_position T r) (first_position T r + n_of T r) T.t2 ≡ part (first_position U r) (first_position U r + n_of U r) U.t2
    part2_same r l =
        part_same _ (first_position T r) (n_of T r) A.same2 (positions_in r l)
        ∙ (λ i. part (p_same r l i) (p_same r l i + n_same r l i) U.t2)

    events_part : {t u : List ℕ} → Same (events_to T T.routes) t u → (r : ℕ) → r < T.routes
        → part (first_event T r) (first_event T r + n_of T r * m_of T r) t ≡ part (first_event U r) (first_event U r + n_of U r * m_of U r) u
    events_part {t} {u} h r l =
        part_same _ (first_event T r) (n_of T r * m_of T r) h (events_in r l)
        ∙ (λ i. part (v_same r l i) (v_same r l i + n_same r l i * m_same r l i) u)

    pub agree_route : (r : ℕ) → r < T.routes → route_of T r ≡ route_of U r
    unfolding route_of
    agree_route r l =
        λ i. record {
          n = n_same r l i;
          m = m_same r l i;
          stops = part2_same r l i;
          arrivals = events_part A.same3 r l i;
          departures = events_part A.same4 r l i;
        }

    time_same : lowest_time T ≡ lowest_time U
    unfolding lowest_time event_of
    time_same =
        found_same _ _ A.routes
        (λ r l i. first_found (m_same r l i) λ j. first_found (n_same r l i) λ k.
        given (time_broken (agree_route r l i) j k) (Some (v_same r l i + (j * n_same r l i + k))))

    overtaken_same : lowest_overtaken T ≡ lowest_overtaken U
    unfolding lowest_overtaken event_of
    overtaken_same =
        found_same _ _ A.routes
        (λ r l i. first_found (m_same r l i - 1) λ j. first_found (n_same r l i) λ k.
        given (overtakes (agree_route r l i) j k) (Some (v_same r l i + ((j + 1) * n_same r l i + k))))

    pub agree_whole : first_broken whole_rules T ≡ first_broken whole_rules U
    unfolding first_broken
    agree_whole =
        λ i. or_else (refused_by 7 (stops_same i))
        (or_else (refused_by 8 (time_same i))
        (or_else (refused_by 9 (overtaken_same i))
        (or_else (refused_by 10 (walks_same i))
        (or_else (refused_by 11 (opens_same i)) None))))

    pub agree_fault : fault_of T ≡ fault_of U
    unfolding fault_of
    agree_fault = λ i. or_else (agree_counts i) (agree_whole i)

    -- ---- the feed

    trip_same : (r : ℕ) (l : r < T.routes) (j : ℕ) → j < m_of T r
        → trip_bytes T (n_of T r) (first_event T r + j * n_of T r) ≡ trip_bytes U (n_of U r) (first_event U r + j * n_of U r)
    unfolding trip_bytes
    trip_same r l j b =
        let n : ℕ = n_of T r in
        let v : ℕ = first_event T r + j * n in
        ap (λ (bs : List ℕ). 0x54 ∷ 0x50 ∷ bs)
        (pieces_same n (λ k. event_bytes T (v + k)) (λ k. event_bytes U (v + k))
        (λ k c. let d : v + k < events_to T T.routes = omega (arith, events_in r l, cell_in n (m_of T r) j k b c) in
        λ i. three_bytes (A.same3.each (v + k) d i) ++ three_bytes (A.same4.each (v + k) d i))
        ∙ (λ i. pieces (n_same r l i) (λ k. event_bytes U (v_same r l i + j * n_same r l i + k))))

    route_bytes_same : (r : ℕ) → r < T.routes → route_bytes T r ≡ route_bytes U r
    unfolding route_bytes
    route_bytes_same r l =
        let x : pieces (m_of T r) (λ j. trip_bytes T (n_of T r) (first_event T r + j * n_of T r)) ≡ pieces (m_of U r) (λ j. trip_bytes U (n_of U r) (first_event U r + j * n_of U r))
        = pieces_same (m_of T r) _ _ (trip_same r l) ∙ (λ i. pieces (m_same r l i) (λ j. trip_bytes U (n_of U r) (first_event U r + j * n_of U r))) in
        λ i. (0x52 ∷ 0x54 ∷ n_same r l i ∷ two_bytes (m_same r l i)) ++ (part2_same r l i ++ x i)

    routes_bytes_same : routes_bytes T T.routes ≡ routes_bytes U U.routes
    unfolding routes_bytes
    routes_bytes_same = pieces_same T.routes (route_bytes T) (route_bytes U) route_bytes_same ∙ ap (λ (k : ℕ). pieces k (route_bytes U)) A.routes

    walks_bytes_same : walks_bytes T T.walks ≡ walks_bytes U U.walks
    unfolding walks_bytes walk_bytes
    walks_bytes_same =
        pieces_same T.walks (walk_bytes T) (walk_bytes U) (λ w l i. 0x57 ∷ 0x4B ∷ from_same w l i ∷ to_same w l i ∷ two_bytes (seconds_same w l i))
        ∙ ap (λ (k : ℕ). pieces k (walk_bytes U)) A.walks

    size_same : size_of T ≡ size_of U
    unfolding size_of
    size_same = λ i. 13 + length (routes_bytes_same i) + length (walks_bytes_same i)

    summed_same : summed T ≡ summed U
    unfolding summed
    summed_same =
        λ i. (0x54 ∷ 0x48 ∷ 1 ∷ (A.stops i - 1) ∷ A.routes i ∷ (two_bytes (A.walks i) ++ two_bytes (size_same i)))
        ++ (routes_bytes_same i ++ (walks_bytes_same i ++ (0x45 ∷ 0x44 ∷ [])))

    pub agree_feed : feed_of T ≡ feed_of U
    unfolding feed_of
    agree_feed = λ i. summed_same i ++ ((fletcher_of (summed_same i)).first ∷ (fletcher_of (summed_same i)).second ∷ [])
