-- 01, "The longest feed that follows these rules has 17,869 bytes": there is a sound timetable whose feed is that long.
use mathlib.Core.Path.{◌≡◌, refl, sym, ap, ◌∙◌}
use mathlib.Core.Logic.{◌⊎◌, inl, inr}
use mathlib.Core.List.{List, [], ◌∷◌}
use Prim.Native.Nat.{ℕ, zero, suc, ◌+◌, ◌*◌, ◌-◌, ◌/◌, ◌%◌, ◌≤◌, ◌<◌}
use native.Mathlib.Nat.{add-zero, le_refl}
use native.Mathlib.Omega.{arith}
use lib.ListN.{length, get_or, drop, length-take, get_or-eq_default}
use lib.Seq.{get_or-take, get_or-drop}
use Rattle.laws.specs.Below.{sum_below}
use Rattle.laws.specs.Lists.{tab, pieces, part}
use Rattle.laws.proofs.Tests.{by_lt}
use Rattle.laws.proofs.Lists.{length-tab, get_d-tab, get_d-pieces}
use Rattle.paper.specs.Timetable.{Tables, n_of, m_of, first_position, first_event, positions_to, trips_to, events_to, walk_from, walk_to, walk_seconds, route_of, arrive_at, depart_at}
use Rattle.paper.specs.Rules.{RouteCounts, EventTimes, NoOvertaking, WalkRight, Sound}
use Rattle.paper.specs.Feed.{routes_bytes, size_of, feed_of}
use Rattle.paper.proofs.Written.{length_route, length_routes_next, length_walks, size_is}

-- a full table of zeros
abbrev zeros : List ℕ
zeros = tab 2048 (λ p. 0)

abbrev route_row : ℕ → List ℕ
route_row r = 32 ∷ 1 ∷ r * 32 ∷ r * 32 ∷ []

-- from the stops 0 to 15 to the stops 16 to 47, so that no walk follows another
abbrev walk_row : ℕ → List ℕ
walk_row w = w / 32 ∷ (16 + w % 32) ∷ 1 ∷ []

-- 64 routes of 32 positions with one trip each, all at time 0, and 512 walks
unfoldable pub fullest : Tables
fullest = record { stops = 256; routes = 64; walks = 512; t1 = pieces 64 route_row; t2 = zeros; t3 = zeros; t4 = zeros; t5 = pieces 512 walk_row }

-- ---- its entries

row_at : (r c : ℕ) → r < 64 → c < 4 → get_or fullest.t1 (r * 4 + c) 0 ≡ get_or (route_row r) c 0
unfolding fullest
row_at r c l k =
    let e : r * 4 + c ≡ 4 * r + c = omega arith in
    ap (λ (i : ℕ). get_or (pieces 64 route_row) i 0) e ∙ get_d-pieces 64 route_row 4 (λ i l. refl) r c 0 l k

n_is : (r : ℕ) → r < 64 → n_of fullest r ≡ 32
n_is r l = ap (λ (i : ℕ). get_or fullest.t1 i 0) (sym (add-zero (r * 4))) ∙ row_at r 0 l (omega arith)

m_is : (r : ℕ) → r < 64 → m_of fullest r ≡ 1
m_is r l = row_at r 1 l (omega arith)

walk_at : (w c : ℕ) → w < 512 → c < 3 → get_or fullest.t5 (w * 3 + c) 0 ≡ get_or (walk_row w) c 0
unfolding fullest
walk_at w c l k =
    let e : w * 3 + c ≡ 3 * w + c = omega arith in
    ap (λ (i : ℕ). get_or (pieces 512 walk_row) i 0) e ∙ get_d-pieces 512 walk_row 3 (λ i l. refl) w c 0 l k

from_is : (w : ℕ) → w < 512 → walk_from fullest w ≡ w / 32
from_is w l = ap (λ (i : ℕ). get_or fullest.t5 i 0) (sym (add-zero (w * 3))) ∙ walk_at w 0 l (omega arith)

to_is : (w : ℕ) → w < 512 → walk_to fullest w ≡ 16 + w % 32
to_is w l = walk_at w 1 l (omega arith)

seconds_is : (w : ℕ) → w < 512 → walk_seconds fullest w ≡ 1
seconds_is w l = walk_at w 2 l (omega arith)

zeros_long : length zeros ≡ 2048
zeros_long = length-tab 2048 _

zero_at : (i : ℕ) → get_or zeros i 0 ≡ 0
zero_at i = by_lt i 2048 (λ l. get_d-tab 2048 (λ p. 0) i 0 l) (λ l. get_or-eq_default zeros 0 (omega (arith, zeros_long)))

zero_part : (a e i : ℕ) → get_or (part a e zeros) i 0 ≡ 0
zero_part a e i =
    by_lt i (e - a)
    (λ l. get_or-take (e - a) (drop a zeros) i 0 l ∙ get_or-drop a zeros i 0 ∙ zero_at (a + i))
    (λ l. get_or-eq_default (part a e zeros) 0 (omega (arith, length-take (e - a) (drop a zeros))))

-- ---- its sums

positions_is : (k : ℕ) → k ≤ 64 → positions_to fullest k ≡ k * 32
unfolding positions_to sum_below
positions_is zero l = refl
positions_is (suc k) l = omega (arith, positions_is k (omega arith), n_is k l)

events_is : (k : ℕ) → k ≤ 64 → events_to fullest k ≡ k * 32
unfolding events_to sum_below
events_is zero l = refl
events_is (suc k) l = let e : n_of fullest k * m_of fullest k ≡ 32 = rw (n_is k l, m_is k l) in omega (arith, events_is k (omega arith), e)

trips_is : (k : ℕ) → k ≤ 64 → trips_to fullest k ≡ k
unfolding trips_to sum_below
trips_is zero l = refl
trips_is (suc k) l = omega (arith, trips_is k (omega arith), m_is k l)

routes_long : (k : ℕ) → k ≤ 64 → length (routes_bytes fullest k) ≡ k * 231
unfolding routes_bytes pieces fullest
routes_long zero l = refl
routes_long (suc k) l =
    let fits : first_position fullest k + n_of fullest k ≤ length zeros = omega (arith, row_at k 2 l (omega arith), n_is k l, zeros_long) in
    let e : (2 + 6 * n_of fullest k) * m_of fullest k ≡ 194 = rw (n_is k l, m_is k l) in
    omega (arith, routes_long k (omega arith), length_routes_next fullest k, length_route fullest k fits, n_is k l, e)

-- ---- its rules

route_right : (r : ℕ) → r < 64 → RouteCounts fullest r
route_right r l =
    record {
      n≥ = omega (arith, n_is r l);
      n≤ = omega (arith, n_is r l);
      m≥ = omega (arith, m_is r l);
      m≤ = omega (arith, m_is r l);
      first_position_is = row_at r 2 l (omega arith) ∙ sym (positions_is r (omega arith));
      first_event_is = row_at r 3 l (omega arith) ∙ sym (events_is r (omega arith));
    }

arrive_is : (r j i : ℕ) → arrive_at (route_of fullest r) j i ≡ 0
unfolding route_of fullest
arrive_is r j i = zero_part (first_event fullest r) (first_event fullest r + n_of fullest r * m_of fullest r) (j * n_of fullest r + i)

depart_is : (r j i : ℕ) → depart_at (route_of fullest r) j i ≡ 0
unfolding route_of fullest
depart_is r j i = zero_part (first_event fullest r) (first_event fullest r + n_of fullest r * m_of fullest r) (j * n_of fullest r + i)

times_right : (r j i : ℕ) → EventTimes (route_of fullest r) j i
times_right r j i =
    let a = arrive_is r j i in
    let d = depart_is r j i in
    record {
      arrive< = omega (arith, a);
      depart< = omega (arith, d);
      in_order = omega (arith, a, d);
      at_first = λ _. a ∙ sym d;
      at_last = λ _. a ∙ sym d;
      next = λ _. omega (arith, d);
    }

none_overtakes : (r j i : ℕ) → NoOvertaking (route_of fullest r) j i
none_overtakes r j i = record { arrives = omega (arith, arrive_is r j i); departs = omega (arith, depart_is r j i) }

walk_right : (w : ℕ) → w < 512 → WalkRight fullest w
unfolding fullest
walk_right w l =
    let a = from_is w l in
    let b = to_is w l in
    let c = seconds_is w l in
    record {
      from< = omega (arith, a);
      to< = omega (arith, b);
      other = λ e. omega (arith, a, b, e);
      seconds≥ = omega (arith, c);
      seconds≤ = omega (arith, c);
    }

walks_rise : (w : ℕ) → w + 1 < 512
    → (walk_from fullest w < walk_from fullest (w + 1)) ⊎ ((walk_from fullest w ≡ walk_from fullest (w + 1)) × (walk_to fullest w < walk_to fullest (w + 1)))
walks_rise w l =
    let a = from_is w (omega arith) in
    let b = to_is w (omega arith) in
    let c = from_is (w + 1) l in
    let d = to_is (w + 1) l in
    by_lt (w % 32) 31
    (λ k. inr (omega (arith, a, c), omega (arith, b, d)))
    (λ k. inl (omega (arith, a, c)))

pub fullest_sound : Sound fullest
unfolding fullest
fullest_sound =
    record {
      stops≥ = omega arith;
      stops≤ = omega arith;
      routes≤ = omega arith;
      walks≤ = omega arith;
      route = route_right;
      trips≤ = omega (arith, trips_is 64 (le_refl 64));
      events≤ = omega (arith, events_is 64 (le_refl 64));
      stop< = λ p l. omega (arith, zero_at p);
      times = λ r j i _ _ _. times_right r j i;
      no_overtaking = λ r j i _ _ _. none_overtakes r j i;
      walk = walk_right;
      rising = walks_rise;
      closed = λ v w lv lw e _. absurd (omega (arith, e, from_is w lw, to_is v lv));
    }

pub fullest_long : length (feed_of fullest) ≡ 17869
unfolding size_of fullest
fullest_long = omega (arith, size_is fullest, routes_long 64 (le_refl 64), length_walks fullest 512)
