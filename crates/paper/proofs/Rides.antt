-- Rides: ride_to is the least arrival of a ride that boards where the row permits it.
use mathlib.Core.Path.{◌≡◌, refl, sym, ap, ◌∙◌}
use mathlib.Core.Logic.{◌≢◌}
use mathlib.Core.Bool.{true, not}
use mathlib.Core.List.{List}
use Prim.Native.Nat.{ℕ, ◌≤◌, ◌<◌}
use native.Mathlib.Nat.{le_trans, le_of_eq}
use native.Mathlib.Omega.{arith}
use borrow.Author.Tests.{not-true, eqb-true, eqb-false, leb-true, eq-eqb, ne_eqb, le-leb}
use lib.Dec.{eqb, leb}
use Rattle.laws.specs.Below.{mark, only, min_below, any_below}
use Rattle.laws.proofs.Tests.{and_both, and_true}
use Rattle.laws.proofs.Below.{only_true, only_hit, min_below_le, min_below_hit, any_below_hit, any_below_of}
use Rattle.paper.specs.Timetable.{Route, Tables, stop_at, arrive_at, depart_at, route_of}
use Rattle.paper.specs.Rows.{label, boards, ride_on, ride_to}
use Rattle.paper.specs.Journey.{Ride}

pub boards_of : (R : Route) (row : List ℕ) (j i : ℕ) → label row (stop_at R i) ≢ mark → label row (stop_at R i) ≤ depart_at R j i → boards R row j i ≡ true
unfolding boards
boards_of R row j i h l = and_true (not (eqb a mark)) (leb a (depart_at R j i)) (ap not (ne_eqb a mark h)) (le-leb a (depart_at R j i) l)
  where
    a : ℕ
    a = label row (stop_at R i)

pub boards_is : (R : Route) (row : List ℕ) (j i : ℕ) → boards R row j i ≡ true → (label row (stop_at R i) ≢ mark) × (label row (stop_at R i) ≤ depart_at R j i)
unfolding boards
boards_is R row j i e =
    let a = label row (stop_at R i) in
    let x = and_both (not (eqb a mark)) (leb a (depart_at R j i)) e in
    (eqb-false a mark (not-true (eqb a mark) x.0), leb-true a (depart_at R j i) x.1)

-- what ride_on takes the least of: over trips at position l, and over positions
abbrev pub on_trip : Route → List ℕ → ℕ → ℕ → ℕ
on_trip R row l j = only (any_below l (boards R row j)) (arrive_at R j l)

abbrev at_place : Route → List ℕ → ℕ → ℕ → ℕ
at_place R row s l = only (eqb (stop_at R l) s) (min_below R.m (on_trip R row l))

pub ride_on_le : (R : Route) (row : List ℕ) (s j i l : ℕ) → j < R.m → l < R.n → i < l → stop_at R l ≡ s → boards R row j i ≡ true → ride_on R row s ≤ arrive_at R j l
unfolding ride_on
ride_on_le R row s j i l hj hl hi hs hb =
    let a = min_below_le R.n (at_place R row s) l hl in
    let b = only_true (eqb (stop_at R l) s) (min_below R.m (on_trip R row l)) (eq-eqb (stop_at R l) s hs) in
    let c = min_below_le R.m (on_trip R row l) j hj in
    let d = only_true (any_below l (boards R row j)) (arrive_at R j l) (any_below_of l (boards R row j) i hi hb) in
    omega arith

-- where ride_on is no mark there is such a ride
pub record Ridden (R : Route) (row : List ℕ) (s t : ℕ) : Type 0 where
  pub j : ℕ
  pub i : ℕ
  pub l : ℕ
  pub j< : j < R.m
  pub l< : l < R.n
  pub i< : i < l
  pub to : stop_at R l ≡ s
  pub boarded : boards R row j i ≡ true
  pub arrives : arrive_at R j l ≡ t

pub ride_on_hit : (R : Route) (row : List ℕ) (s : ℕ) → ride_on R row s ≢ mark → Ridden R row s (ride_on R row s)
unfolding ride_on
ride_on_hit R row s h =
    let x = min_below_hit R.n (at_place R row s) h in
    let l = x.0 in
    let y = only_hit (eqb (stop_at R l) s) (min_below R.m (on_trip R row l)) (λ z. h (sym x.2 ∙ z)) in
    let v = min_below_hit R.m (on_trip R row l) (λ z. h (sym x.2 ∙ y.1 ∙ z)) in
    let j = v.0 in
    let w = only_hit (any_below l (boards R row j)) (arrive_at R j l) (λ z. h (sym x.2 ∙ y.1 ∙ sym v.2 ∙ z)) in
    let b = any_below_hit l (boards R row j) w.0 in
    record {
      j = j;
      i = b.0;
      l = l;
      j< = v.1;
      l< = x.1;
      i< = b.1;
      to = eqb-true (stop_at R l) s y.0;
      boarded = b.2;
      arrives = sym w.1 ∙ v.2 ∙ sym y.1 ∙ x.2;
    }

pub ride_to_le : (T : Tables) (row : List ℕ) {b a s t : ℕ} (x : Ride T b a s t) → label row b ≤ a → label row b ≢ mark → ride_to T row s ≤ t
unfolding ride_to
ride_to_le T row {b} {a} {s} {t} x h m =
    let R = route_of T x.route in
    let at : label row (stop_at R x.board) ≡ label row b = ap (label row) x.from in
    le_trans (min_below_le T.routes (λ r. ride_on (route_of T r) row s) x.route x.route<)
    (le_trans (ride_on_le R row s x.trip x.board x.leave x.trip< x.leave< x.later x.to
    (boards_of R row x.trip x.board (λ z. m (sym at ∙ z)) (le_trans (le_of_eq at) (le_trans h x.catches))))
    (le_of_eq x.arrives))

-- a ride that arrives at t and boards where the row permits it: at stop b, reached by its label
pub record Permitted (T : Tables) (row : List ℕ) (s t : ℕ) : Type 0 where
  pub b : ℕ
  pub reached : label row b ≢ mark
  pub ride : Ride T b (label row b) s t

pub ride_to_hit : (T : Tables) (row : List ℕ) (s : ℕ) → ride_to T row s ≢ mark → Permitted T row s (ride_to T row s)
unfolding ride_to
ride_to_hit T row s h =
    let x = min_below_hit T.routes (λ r. ride_on (route_of T r) row s) h in
    let R = route_of T x.0 in
    let y = ride_on_hit R row s (λ z. h (sym x.2 ∙ z)) in
    let b = boards_is R row y.j y.i y.boarded in
    record {
      b = stop_at R y.i;
      reached = b.0;
      ride = record {
        route = x.0;
        trip = y.j;
        board = y.i;
        leave = y.l;
        route< = x.1;
        trip< = y.j<;
        later = y.i<;
        leave< = y.l<;
        from = refl;
        catches = b.1;
        to = y.to;
        arrives = y.arrives ∙ x.2;
      };
    }
