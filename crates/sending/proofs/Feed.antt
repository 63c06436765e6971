-- The whole feed of a sound timetable: its size, and its parts one after the other.
use mathlib.Core.Path.{◌≡◌, refl, sym, ap, ◌∙◌}
use mathlib.Core.List.{List, [], ◌∷◌, ◌++◌, append_assoc}
use Prim.Native.Nat.{ℕ, ◌+◌, ◌*◌, ◌/◌, ◌%◌, ◌≤◌, ◌<◌}
use native.Mathlib.Nat.{div-add-mod', div-lt_iff_lt-mul, mod-lt, mul_comm}
use native.Mathlib.Omega.{arith}
use lib.ListN.{length, get_or, take, length-append}
use Rattle.laws.specs.Below.{sum_below}
use Rattle.laws.specs.Lists.{part}
use Rattle.laws.proofs.Below.{sum_below_same}
use Rattle.laws.proofs.Lists.{length-pieces-sum, get_d_part}
use Rattle.paper.specs.Timetable.{Tables, lent, n_of, m_of, first_position, first_event, route_of}
use Rattle.paper.specs.Feed.{route_bytes, routes_bytes, walks_bytes, size_of, summed, fletcher_of, feed_of}
use Rattle.paper.specs.declared.Lent.{Lent}
use Rattle.paper.specs.Rules.{Fit}
use Rattle.paper.proofs.RouteEnds.{route_positions, head_in, positions_in, arrivals_in, departures_in}
use Rattle.paper.proofs.Written.{length_route, length_walks, size_is, longest}
use Rattle.lettering.specs.Put.{HasRoom}
use Rattle.lettering.specs.declared.Pen.{Pen}
use Rattle.sending.specs.Puts.{Sent, RouteFits, RoutesRoom, WalkFits, WalksRoom, head_of, HeadFits, end_of, route_size, size_by, SizeFits, FeedFits}
use Rattle.sending.proofs.Sent.{puts_take, sent_length, sent_then, sent_same}

-- ---- what a sound timetable's numbers fit

-- the elements of a table of m rows of n, known cell by cell
module _ (n m : ℕ) (t : List ℕ) (v bound : ℕ) (some : 0 < n)
    (each : (j i : ℕ) → j < m → i < n → get_or (part v (v + n * m) t) (j * n + i) 0 < bound) where
  all_cells : (x : ℕ) → x < n * m → get_or t (v + x) 0 < bound
  all_cells x l =
      let j : ℕ = x / n in
      let i : ℕ = x % n in
      let e : j * n + i ≡ x = div-add-mod' x n in
      let jm : j < m = (div-lt_iff_lt-mul some).1 (omega (arith, mul_comm n m)) in
      let h = each j i jm (mod-lt x some) in
      let g : get_or (part v (v + n * m) t) x 0 ≡ get_or t (v + x) 0 = get_d_part t v (v + n * m) x 0 (omega arith) in
      rw g at (rw e at h)

module _ {T : Tables} (w : Fit T) where
  pub route_fits : (r : ℕ) → r < T.routes → RouteFits T r
  unfolding route_of
  route_fits r l =
      let c = w.sound.route r l in
      record {
        row = omega (arith, head_in T w r l);
        n≤ = c.n≤;
        m≤ = c.m≤;
        stops = record {
          there = positions_in T w r l;
          each = λ i k. omega (arith, w.sound.stop< (first_position T r + i) (omega (arith, route_positions T w.sound r l)), w.sound.stops≤);
        };
        arrivals = record {
          there = arrivals_in T w r l;
          each = all_cells (n_of T r) (m_of T r) T.t3 (first_event T r) 16777216 (omega (arith, c.n≥))
              (λ j i a b. let h = (w.sound.times r j i l a b).arrive< in omega arith);
        };
        departures = record {
          there = departures_in T w r l;
          each = all_cells (n_of T r) (m_of T r) T.t4 (first_event T r) 16777216 (omega (arith, c.n≥))
              (λ j i a b. let h = (w.sound.times r j i l a b).depart< in omega arith);
        };
      }

  pub walk_fits : (k : ℕ) → k < T.walks → WalkFits T k
  walk_fits k l =
      let c = w.sound.walk k l in
      record {
        row = omega (arith, w.sound.walks≤, w.walks_room);
        from< = omega (arith, c.from<, w.sound.stops≤);
        to< = omega (arith, c.to<, w.sound.stops≤);
        seconds< = omega (arith, c.seconds≤);
      }

  pub size_fits : SizeFits T T.routes T.walks
  size_fits =
      record {
        rows = omega (arith, w.sound.routes≤, w.routes_room);
        routes≤ = w.sound.routes≤;
        walks≤ = w.sound.walks≤;
        route = λ r l. record { n≤ = (w.sound.route r l).n≤; m≤ = (w.sound.route r l).m≤ };
      }

  -- ---- the size

  pub size_by_lem : size_by T T.routes T.walks ≡ size_of T
  unfolding size_by size_of routes_bytes route_size
  size_by_lem =
      let s : sum_below T.routes (λ r. length (route_bytes T r)) ≡ sum_below T.routes (route_size T)
      = sum_below_same T.routes (λ r. length (route_bytes T r)) (route_size T)
      (λ r l. length_route T r (positions_in T w r l)) in
      omega (arith, s, length-pieces-sum T.routes (route_bytes T), length_walks T T.walks)

  pub size_small : size_of T ≤ 17869
  size_small = omega (arith, size_is T, longest T w.sound)

-- ---- its parts

feed_room : {T : Tables} {size : ℕ} {out : List ℕ} → FeedFits T size out → 13 + length (routes_bytes T T.routes) + length (walks_bytes T T.walks) ≤ length out
unfolding size_of
feed_room pre = omega (arith, pre.room, pre.is)

pub can_head : (x : Lent) {size : ℕ} {p : Pen} → FeedFits (lent x) size p.out.now → p.at ≡ 0 → HeadFits x.heads size p
can_head x pre start =
    record {
      stops≥ = pre.fit.sound.stops≥;
      stops≤ = pre.fit.sound.stops≤;
      routes≤ = pre.fit.sound.routes≤;
      walks≤ = pre.fit.sound.walks≤;
      size< = omega (arith, pre.is, size_small pre.fit);
      room = omega (arith, feed_room pre, start);
    }

module _ (x : Lent) {size : ℕ} (p : Pen) (pre : FeedFits (lent x) size p.out.now) (start : p.at ≡ 0) where
  abbrev T : Tables
  T = lent x

  pub can_routes : {q : Pen} → Sent (head_of x.heads size) p q → RoutesRoom T T.routes q
  can_routes s = record { fits = route_fits pre.fit; room = omega (arith, feed_room pre, start, s.puts.next, sent_length s) }

  pub can_walks : {q : Pen} → Sent (head_of x.heads size ++ routes_bytes T T.routes) p q → WalksRoom T T.walks q
  can_walks s = record { fits = walk_fits pre.fit; room = omega (arith, feed_room pre, start, s.puts.next, sent_length s) }

  pub can_end : {q : Pen} → Sent (head_of x.heads size ++ (routes_bytes T T.routes ++ walks_bytes T T.walks)) p q → HasRoom 4 q
  can_end s = omega (arith, feed_room pre, start, s.puts.next, sent_length s, length-append (routes_bytes T T.routes) (walks_bytes T T.walks))

  -- the end record behind all the others makes the feed
  pub feed_end : {q r : Pen} → Sent (head_of x.heads size ++ (routes_bytes T T.routes ++ walks_bytes T T.walks)) p q → Sent (end_of (take q.at q.out.now)) q r
      → Sent (feed_of T) p r
  unfolding feed_of summed
  feed_end {q} a b =
      let front : List ℕ = head_of x.heads size ++ (routes_bytes T T.routes ++ walks_bytes T T.walks) in
      let mark : List ℕ = 0x45 ∷ 0x44 ∷ [] in
      let t : take q.at q.out.now ≡ front = puts_take a.puts ∙ rw start refl in
      let s : front ++ mark ≡ summed T
      = append_assoc (head_of x.heads size) (routes_bytes T T.routes ++ walks_bytes T T.walks) mark
      ∙ ap (λ (z : List ℕ). head_of x.heads size ++ z) (append_assoc (routes_bytes T T.routes) (walks_bytes T T.walks) mark)
      ∙ ap (λ (k : ℕ). head_of x.heads k ++ (routes_bytes T T.routes ++ (walks_bytes T T.walks ++ mark))) pre.is in
      let last : List ℕ = (fletcher_of (summed T)).first ∷ (fletcher_of (summed T)).second ∷ [] in
      let e : end_of (take q.at q.out.now) ≡ mark ++ last
      = ap end_of t ∙ (λ i. 0x45 ∷ 0x44 ∷ (fletcher_of (s i)).first ∷ (fletcher_of (s i)).second ∷ []) in
      sent_same
      (ap (λ (z : List ℕ). front ++ z) e ∙ sym (append_assoc front mark last) ∙ ap (λ (z : List ℕ). z ++ last) s)
      (sent_then a b)
