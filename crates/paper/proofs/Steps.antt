-- One round: next_row at a stop is the least of its label and of the arrivals of steps that board where the row permits it.
use mathlib.Core.Path.{◌≡◌, refl, sym, ap, ◌∙◌}
use mathlib.Core.Logic.{◌≢◌, ⊎_elim}
use mathlib.Core.List.{List}
use Prim.Native.Nat.{ℕ, ◌+◌, ◌≤◌, ◌<◌, min}
use native.Mathlib.Omega.{arith}
use borrow.Author.Tests.{eqb-true, eq-eqb}
use lib.Dec.{eqb}
use lib.ListN.{length, get_or, get_or-eq_default}
use Rattle.laws.specs.Below.{mark, only, min_below}
use Rattle.laws.specs.Lists.{tab}
use Rattle.laws.proofs.Tests.{min_is, by_lt}
use Rattle.laws.proofs.Below.{only_true, only_hit, min_below_le, min_below_hit, min_below-mark}
use Rattle.laws.proofs.Lists.{length-tab, get_d-tab}
use Rattle.laws.proofs.Runs.{get_d_default}
use Rattle.paper.specs.Timetable.{Tables, walk_from, walk_to, walk_seconds}
use Rattle.paper.specs.Rows.{label, ride_to, walk_in, rides_from, next_row}
use Rattle.paper.specs.Journey.{Ride, Walk, Step, ride, ride_walk}
use Rattle.paper.proofs.Rides.{ride_to_le, ride_to_hit}
use Rattle.paper.proofs.Usable.{Usable}

pub label-tab : (k : ℕ) (f : ℕ → ℕ) (s : ℕ) → s < k → label (tab k f) s ≡ f s
unfolding label
label-tab k f s h = get_d-tab k f s mark h

-- within a row a label is the element
pub label_read : (row : List ℕ) (s : ℕ) → s < length row → label row s ≡ get_or row s 0
unfolding label
label_read row s h = get_d_default row s mark 0 h

-- past a row stands the mark
pub label_out : (row : List ℕ) (s : ℕ) → length row ≤ s → label row s ≡ mark
unfolding label
label_out row s h = get_or-eq_default row mark h

-- so a label that is no mark is of a stop
pub label_in : (k : ℕ) (f : ℕ → ℕ) (s : ℕ) → label (tab k f) s ≢ mark → s < k
label_in k f s h = by_lt s k (λ l. l) (λ l. absurd (h (label_out (tab k f) s (omega (arith, length-tab k f)))))

pub label_rides : (T : Tables) (row : List ℕ) (s : ℕ) → s < T.stops → label (rides_from T row) s ≡ ride_to T row s
unfolding rides_from
label_rides T row s h = label-tab T.stops (ride_to T row) s h

rides_in : (T : Tables) (row : List ℕ) (s : ℕ) → label (rides_from T row) s ≢ mark → s < T.stops
unfolding rides_from
rides_in T row s h = label_in T.stops (ride_to T row) s h

pub label_next : (T : Tables) (row : List ℕ) (s : ℕ) → s < T.stops →
    label (next_row T row) s ≡ min (label row s) (min (label (rides_from T row) s) (walk_in T (rides_from T row) s))
unfolding next_row
label_next T row s h = label-tab T.stops _ s h

abbrev on_foot : Tables → List ℕ → ℕ → ℕ → ℕ
on_foot T rides s w = only (eqb (walk_to T w) s) (label rides (walk_from T w) + walk_seconds T w)

walk_in_le : (T : Tables) (rides : List ℕ) {s t p u : ℕ} → Walk T s t p u → label rides s ≤ t → walk_in T rides p ≤ u
unfolding walk_in
walk_in_le T rides {s} {t} {p} {u} x h =
    let w = x.walk in
    let e : on_foot T rides p w ≡ label rides (walk_from T w) + walk_seconds T w = only_true (eqb (walk_to T w) p) _ (eq-eqb (walk_to T w) p x.to) in
    let f : label rides (walk_from T w) ≡ label rides s = ap (label rides) x.from in
    let g : t + walk_seconds T w ≡ u = x.arrives in
    let l = min_below_le T.walks (on_foot T rides p) w x.walk< in
    omega arith

-- a walk that arrives at u from where a ride arrived
record Walked (T : Tables) (rides : List ℕ) (p u : ℕ) : Type 0 where
  s : ℕ
  reached : label rides s ≢ mark
  walk : Walk T s (label rides s) p u

walk_in_hit : (T : Tables) (rides : List ℕ) (p : ℕ) → walk_in T rides p ≢ mark → Walked T rides p (walk_in T rides p)
unfolding walk_in
walk_in_hit T rides p h =
    let x = min_below_hit T.walks (on_foot T rides p) h in
    let w = x.0 in
    let y = only_hit (eqb (walk_to T w) p) (label rides (walk_from T w) + walk_seconds T w) (λ z. h (sym x.2 ∙ z)) in
    let m = min_below-mark T.walks (on_foot T rides p) in
    let e : label rides (walk_from T w) + walk_seconds T w ≡ min_below T.walks (on_foot T rides p) = sym y.1 ∙ x.2 in
    record {
      s = walk_from T w;
      reached = λ z. h (omega arith);
      walk = record { walk = w; walk< = x.1; from = refl; to = eqb-true (walk_to T w) p y.0; arrives = e };
    }

-- a round raises no label
pub next_le : (T : Tables) (row : List ℕ) (s : ℕ) → s < T.stops → label (next_row T row) s ≤ label row s
next_le T row s h = let e = label_next T row s h in omega arith

module _ (T : Tables) (us : Usable T) where
  -- a ride comes to a stop, and boards at one
  pub ride_to_lem : {b a s t : ℕ} → Ride T b a s t → s < T.stops
  ride_to_lem x = rw (← x.to) (us.stop< x.route x.leave x.route< x.leave<)

  pub ride_from : {b a s t : ℕ} → Ride T b a s t → b < T.stops
  ride_from x =
      let l = x.later in
      let m = x.leave< in
      rw (← x.from) (us.stop< x.route x.board x.route< (omega arith))

  -- a step that the row permits arrives no earlier than the next row's label
  pub step_le : (row : List ℕ) {b a p u : ℕ} → Step T b a p u → label row b ≤ a → label row b ≢ mark → p < T.stops → label (next_row T row) p ≤ u
  step_le row {p} (ride x) h m hp =
      let e = label_next T row p hp in
      let f = label_rides T row p hp in
      let g = ride_to_le T row x h m in
      omega arith
  step_le row {p} {u} (ride_walk {s} {t} x w) h m hp =
      let e = label_next T row p hp in
      let f = label_rides T row s (ride_to_lem x) in
      let g = ride_to_le T row x h m in
      let k = walk_in_le T (rides_from T row) w (omega arith) in
      omega arith

-- a ride or walk with its arrival in other words
ride_at : {T : Tables} {b a s t u : ℕ} → Ride T b a s t → u ≡ t → Ride T b a s u
ride_at x e = rw e x

walk_at : {T : Tables} {s t p u v : ℕ} → Walk T s t p u → v ≡ u → Walk T s t p v
walk_at x e = rw e x

-- a step that arrives at u and boards where the row permits it: at stop b, reached by its label
pub record Stepped (T : Tables) (row : List ℕ) (p u : ℕ) : Type 0 where
  pub b : ℕ
  pub reached : label row b ≢ mark
  pub step : Step T b (label row b) p u

module _ (T : Tables) (row : List ℕ) (p : ℕ) where
  by_ride : p < T.stops → (new : ℕ) → new ≢ mark → new ≡ label (rides_from T row) p → Stepped T row p new
  by_ride hp new m h =
      let f : new ≡ ride_to T row p = h ∙ label_rides T row p hp in
      let x = ride_to_hit T row p (λ z. m (f ∙ z)) in
      record { b = x.b; reached = x.reached; step = ride (ride_at x.ride f) }

  by_walk : (new : ℕ) → new ≢ mark → new ≡ walk_in T (rides_from T row) p → Stepped T row p new
  by_walk new m h =
      let w = walk_in_hit T (rides_from T row) p (λ z. m (h ∙ z)) in
      let f = label_rides T row w.s (rides_in T row w.s w.reached) in
      let x = ride_to_hit T row w.s (λ z. w.reached (f ∙ z)) in
      record {
        b = x.b;
        reached = x.reached;
        step = ride_walk {s = w.s} {t = label (rides_from T row) w.s} (ride_at x.ride f) (walk_at w.walk h);
      }

  -- where a round lowers a label there is such a step
  pub step_hit : p < T.stops → label (next_row T row) p < label row p → label row p ≤ mark → Stepped T row p (label (next_row T row) p)
  step_hit hp l m =
      let rides = rides_from T row in
      let new = label (next_row T row) p in
      let e : new ≡ min (label row p) (min (label rides p) (walk_in T rides p)) = label_next T row p hp in
      let ne : new ≢ mark = omega arith in
      ⊎_elim
      (λ c. by_ride hp new ne (omega arith))
      (λ c. by_walk new ne (omega arith))
      (min_is (label rides p) (walk_in T rides p))
