-- The records of a timetable put one after the other: what each function needs, and what it leaves.
use mathlib.Core.Path.{◌≡◌, refl}
use mathlib.Core.List.{List, [], ◌∷◌, ◌++◌}
use Prim.Native.Nat.{ℕ, ◌+◌, ◌*◌, ◌≤◌, ◌<◌}
use native.Mathlib.Nat.{mul_comm, mul-le-mul_left, mul-suc}
use native.Mathlib.Numerals.{add-one}
use native.Mathlib.Omega.{arith}
use lib.ListN.{length, length-append}
use Rattle.laws.specs.Below.{sum_below}
use Rattle.laws.specs.Lists.{pieces, part}
use Rattle.laws.specs.Fields.{two_bytes}
use Rattle.laws.proofs.Tests.{cell_in, cells_most}
use Rattle.laws.proofs.Below.{sum_below_next}
use Rattle.laws.proofs.Lists.{length-part_of, get_d_part}
use Rattle.paper.specs.Timetable.{Tables, n_of, m_of, first_position, first_event, walk_seconds}
use Rattle.paper.specs.Feed.{event_bytes, trip_bytes, route_bytes, walk_bytes}
use Rattle.lettering.specs.Put.{HasRoom}
use Rattle.lettering.specs.declared.Pen.{Pen}
use Rattle.sending.specs.Puts.{Sent, CanPutField, Small, StopsFit, TripFits, TripsFit, RouteRoom, WalkRoom, route_size, RouteSmall, size_by, SizeFits}
use Rattle.sending.proofs.Sent.{sent_length, sent_then, Sending, sending_start, sending_end}

-- ---- trips

module _ {T : Tables} {n v : ℕ} {p : Pen} (pre : TripFits T n v p) where
  pub trip_mark : HasRoom 2 p
  unfolding trip_bytes
  trip_mark = omega (arith, pre.room)

  pub events_start : {q : Pen} → Sent (0x54 ∷ 0x50 ∷ []) p q → Sending (λ i. event_bytes T (v + i)) n q q 0
  unfolding trip_bytes
  events_start h = sending_start (λ i. event_bytes T (v + i)) n (omega (arith, pre.room, h.puts.next, sent_length h))

pub trip_end : (T : Tables) (n v : ℕ) {i : ℕ} {p q r : Pen} → Sent (0x54 ∷ 0x50 ∷ []) p q → Sending (λ i. event_bytes T (v + i)) n q r i → n ≤ i → Sent (trip_bytes T n v) p r
unfolding trip_bytes
trip_end T n v h s l = sent_then h (sending_end s l)

-- row j of a table of m rows of n
pub row_in_lem : (n m j : ℕ) → j < m → j * n + n ≤ n * m
row_in_lem n m j l =
    let t : n * (j + 1) ≤ n * m = mul-le-mul_left n (omega arith) in
    let u : n * (j + 1) ≡ n * j + n = rw (add-one, mul-suc) (omega arith) in
    omega (arith, mul_comm j n)

pub small_row : {a : List ℕ} {v n m bound : ℕ} → Small a v (n * m) bound → (j : ℕ) → j < m → Small a (v + j * n) n bound
small_row {a} {v} {n} {m} {bound} h j l =
    record {
      there = omega (arith, h.there, row_in_lem n m j l);
      each = λ i k. let e : v + j * n + i ≡ v + (j * n + i) = omega arith in
          rw e (h.each (j * n + i) (cell_in n m j i l k));
    }

abbrev pub trip_at_row : Tables → ℕ → ℕ → ℕ → List ℕ
trip_at_row T n v j = trip_bytes T n (v + j * n)

pub trip_fits : {T : Tables} {n m v j : ℕ} {p q : Pen} → TripsFit T n m v p → j < m → HasRoom (length (trip_at_row T n v j)) q → TripFits T n (v + j * n) q
trip_fits {j = j} pre l room = record { arrivals = small_row pre.arrivals j l; departures = small_row pre.departures j l; room = room }

-- ---- a route

module _ {T : Tables} {r : ℕ} {p : Pen} (pre : RouteRoom T r p) where
  abbrev n : ℕ
  n = n_of T r

  abbrev m : ℕ
  m = m_of T r

  abbrev first : List ℕ
  first = 0x52 ∷ 0x54 ∷ n ∷ two_bytes m

  abbrev stops : List ℕ
  stops = part (first_position T r) (first_position T r + n) T.t2

  abbrev trips : List ℕ
  trips = pieces m (trip_at_row T n (first_event T r))

  long : length stops ≡ n
  long = length-part_of T.t2 (first_position T r) n pre.fits.stops.there

  room : HasRoom (5 + (n + length trips)) p
  unfolding route_bytes trip_bytes
  room = omega (arith, pre.room, length-append stops trips, long)

  pub route_mark : HasRoom 2 p
  route_mark = omega (arith, room)

  pub can_n : {q : Pen} → Sent (0x52 ∷ 0x54 ∷ []) p q → HasRoom 1 q
  can_n s = omega (arith, room, s.puts.next, sent_length s)

  pub can_m : {q : Pen} → Sent (0x52 ∷ 0x54 ∷ n ∷ []) p q → CanPutField m 65536 2 q
  can_m s = record { small = omega (arith, pre.fits.m≤); room = omega (arith, room, s.puts.next, sent_length s) }

  pub can_stops : {q : Pen} → Sent first p q → StopsFit stops q
  can_stops s =
      record {
        each = λ i l. rw (get_d_part T.t2 (first_position T r) (first_position T r + n) i 0 (omega (arith, long))) (pre.fits.stops.each i (omega (arith, long)));
        room = omega (arith, room, s.puts.next, sent_length s, long);
      }

  pub can_trips : {q : Pen} → Sent (first ++ stops) p q → TripsFit T n m (first_event T r) q
  can_trips s =
      record {
        arrivals = pre.fits.arrivals;
        departures = pre.fits.departures;
        room = omega (arith, room, s.puts.next, sent_length s, long);
      }

pub route_end : (T : Tables) (r : ℕ) {p q q' q'' : Pen} → Sent (0x52 ∷ 0x54 ∷ n_of T r ∷ two_bytes (m_of T r)) p q
    → Sent (part (first_position T r) (first_position T r + n_of T r) T.t2) q q' → Sent (pieces (m_of T r) (trip_at_row T (n_of T r) (first_event T r))) q' q''
    → Sent (route_bytes T r) p q''
unfolding route_bytes
route_end T r x y z = sent_then x (sent_then y z)

-- ---- a walk

module _ {T : Tables} {w : ℕ} {p : Pen} (pre : WalkRoom T w p) where
  pub walk_room : HasRoom 6 p
  unfolding walk_bytes
  walk_room = pre.room

  pub can_from : {q : Pen} → Sent (0x57 ∷ 0x4B ∷ []) p q → HasRoom 1 q
  can_from s = omega (arith, walk_room, s.puts.next, sent_length s)

  pub can_to : {x : ℕ} {q : Pen} → Sent (0x57 ∷ 0x4B ∷ x ∷ []) p q → HasRoom 1 q
  can_to s = omega (arith, walk_room, s.puts.next, sent_length s)

  pub can_seconds : {x y : ℕ} {q : Pen} → Sent (0x57 ∷ 0x4B ∷ x ∷ y ∷ []) p q → CanPutField (walk_seconds T w) 65536 2 q
  can_seconds s = record { small = pre.fits.seconds<; room = omega (arith, walk_room, s.puts.next, sent_length s) }

-- ---- the size

pub route_small : (n m : ℕ) → RouteSmall n m → 5 + n + (2 + 6 * n) * m ≤ 197701
route_small n m s = omega (arith, s.n≤, cells_most (2 + 6 * n) m 386 512 (omega (arith, s.n≤)) s.m≤)

pub record Sizing (T : Tables) (count r size : ℕ) : Type 0 where
  pub r≤ : r ≤ count
  pub is : size ≡ 13 + sum_below r (route_size T)
  pub small : size ≤ 13 + 197701 * r

pub sizing_start : (T : Tables) (count : ℕ) → Sizing T count 0 13
unfolding sum_below
sizing_start T count = record { r≤ = omega arith; is = refl; small = omega arith }

pub sizing_step : {T : Tables} {count walks r size x : ℕ} → SizeFits T count walks → Sizing T count r size → r < count
    → x ≡ 5 + n_of T r + (2 + 6 * n_of T r) * m_of T r → Sizing T count (r + 1) (size + x)
unfolding route_size
sizing_step {T} {r = r} pre s l e =
    record {
      r≤ = omega arith;
      is = omega (arith, s.is, e, sum_below_next r (route_size T));
      small = omega (arith, s.small, e, route_small (n_of T r) (m_of T r) (pre.route r l));
    }

pub sizing_end : {T : Tables} {count r size : ℕ} (walks : ℕ) → Sizing T count r size → count ≤ r → size + 6 * walks ≡ size_by T count walks
unfolding size_by
sizing_end {T} {count} {r} walks s l = let t : r ≡ count = omega (arith, s.r≤) in omega (arith, rw t at s.is)
