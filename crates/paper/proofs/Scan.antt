-- Why one look at a route is enough: where no trip overtakes, only the earliest trip that could be boarded before a position matters there.
use mathlib.Core.Path.{◌≡◌, sym, ap, ◌∙◌}
use mathlib.Core.Logic.{⊎_elim}
use mathlib.Core.Bool.{true}
use mathlib.Core.List.{List}
use Prim.Native.Nat.{ℕ, zero, suc, ◌+◌, ◌≤◌, ◌<◌}
use native.Mathlib.Nat.{le_refl, le_antisymm}
use native.Mathlib.Omega.{arith}
use borrow.Author.Tests.{lt-ltb, le-ltb}
use lib.Dec.{eqb, ltb}
use Rattle.laws.specs.Below.{mark, only, min_below, any_below}
use Rattle.laws.proofs.Tests.{by_test, by_lt, min_is, climb}
use Rattle.laws.proofs.Below.{only_true, only_false, min_below_le, min_below-mark, le_min_below, min_below_same, any_below_hit, any_below_of, first_below_of, first_below_hit}
use Rattle.paper.specs.Timetable.{Route, stop_at, arrive_at, depart_at}
use Rattle.paper.specs.Rows.{boards, ride_on}
use Rattle.paper.specs.Work.{first_caught, caught}
use Rattle.paper.proofs.Rides.{on_trip}

-- a later trip is at no position earlier, and times are below the mark
pub record Orderly (R : Route) : Type 0 where
  pub departs : (j i : ℕ) → j + 1 < R.m → i < R.n → depart_at R j i ≤ depart_at R (j + 1) i
  pub arrives : (j i : ℕ) → j + 1 < R.m → i < R.n → arrive_at R j i ≤ arrive_at R (j + 1) i
  pub arrive< : (j i : ℕ) → j < R.m → i < R.n → arrive_at R j i < mark

module _ (R : Route) (row : List ℕ) where
  -- the first trip at i is at most each trip that can be boarded there
  pub first_caught_of : (i j : ℕ) → j < R.m → boards R row j i ≡ true → first_caught R row i ≤ j
  unfolding first_caught
  first_caught_of i j l h = first_below_of R.m (λ j. boards R row j i) j l h

  -- and can be boarded there, if there is one
  pub first_caught-boards : (i : ℕ) → first_caught R row i < R.m → boards R row (first_caught R row i) i ≡ true
  unfolding first_caught
  first_caught-boards i h = first_below_hit R.m (λ j. boards R row j i) h

  -- the same over all positions before l
  pub caught_le : (l : ℕ) → caught R row l ≤ R.m
  unfolding caught
  caught_le zero = le_refl R.m
  caught_le (suc l) = let h = caught_le l in omega arith

  pub caught_of : (l i j : ℕ) → i < l → j < R.m → boards R row j i ≡ true → caught R row l ≤ j
  unfolding caught
  caught_of zero i j h k b = absurd (omega arith)
  caught_of (suc l) i j h k b =
      by_lt i l
      (λ e. let a = caught_of l i j e k b in omega arith)
      (λ e. let z : i ≡ l = omega arith in let a : first_caught R row l ≤ j = rw (← z) (first_caught_of i j k b) in omega arith)

  pub caught-boards : (l : ℕ) → caught R row l < R.m → (i : ℕ) × (i < l) × (boards R row (caught R row l) i ≡ true)
  unfolding caught
  caught-boards zero h = absurd (omega arith)
  caught-boards (suc l) h =
      ⊎_elim
      (λ e. let x = caught-boards l (omega arith) in
      let k : x.0 < l = x.1 in
      (x.0, omega arith, ap (λ (j : ℕ). boards R row j x.0) e ∙ x.2))
      (λ e. (l, le_refl (suc l), ap (λ (j : ℕ). boards R row j l) e ∙ first_caught-boards l (omega arith)))
      (min_is (caught R row l) (first_caught R row l))

-- what a scan brings to position l: the arrival there of the earliest trip that could be boarded before l
unfoldable pub scan_at : Route → List ℕ → ℕ → ℕ
scan_at R row l = only (ltb (caught R row l) R.m) (arrive_at R (caught R row l) l)

-- by one scan: the least over the positions at s
unfoldable pub scan_on : Route → List ℕ → ℕ → ℕ
scan_on R row s = min_below R.n λ l. only (eqb (stop_at R l) s) (scan_at R row l)

-- a trip that was boarded is none before the earliest caught; one that was not is the mark
at_least : (R : Route) (row : List ℕ) (l v j : ℕ) → v ≤ mark → (caught R row l ≤ j → v ≤ arrive_at R j l) → j < R.m → v ≤ on_trip R row l j
at_least R row l v j k f m =
    by_test (any_below l (boards R row j))
    (λ e. rw (only_true (any_below l (boards R row j)) (arrive_at R j l) e)
    (let x = any_below_hit l (boards R row j) e in f (caught_of R row l x.0 j x.1 m x.2)))
    (λ e. rw (only_false (any_below l (boards R row j)) (arrive_at R j l) e) k)

module _ (R : Route) (order : Orderly R) (row : List ℕ) where
  place_is : (l : ℕ) → l < R.n → min_below R.m (on_trip R row l) ≡ scan_at R row l
  unfolding scan_at
  place_is l h =
      let c = caught R row l in
      by_lt c R.m
      (λ k. let x = caught-boards R row l k in
      let e : on_trip R row l c ≡ arrive_at R c l = only_true (any_below l (boards R row c)) (arrive_at R c l) (any_below_of l (boards R row c) x.0 x.1 x.2) in
      let a = min_below_le R.m (on_trip R row l) c k in
      let v = order.arrive< c l k h in
      let b = le_min_below R.m (on_trip R row l) (arrive_at R c l) (omega arith)
      (λ j m. at_least R row l (arrive_at R c l) j (omega arith) (λ z. climb (λ j. arrive_at R j l) R.m (λ j y. order.arrives j l y h) c j z m) m) in
      le_antisymm (omega arith) b ∙ sym (only_true (ltb c R.m) (arrive_at R c l) (lt-ltb c R.m k)))
      (λ k. let b = le_min_below R.m (on_trip R row l) mark (le_refl mark) (λ j m. at_least R row l mark j (le_refl mark) (λ z. absurd (omega arith)) m) in
      le_antisymm (min_below-mark R.m (on_trip R row l)) b ∙ sym (only_false (ltb c R.m) (arrive_at R c l) (le-ltb c R.m k)))

  -- one scan finds the earliest arrival of every ride
  pub scan_is : (s : ℕ) → ride_on R row s ≡ scan_on R row s
  unfolding ride_on scan_on
  scan_is s = min_below_same R.n _ _ λ l h. ap (only (eqb (stop_at R l) s)) (place_is l h)
