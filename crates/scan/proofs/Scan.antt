-- What a scan of a route has found before a position. Once it has passed all positions, these are all rides (paper's `scan_is`).
use mathlib.Core.Path.{◌≡◌, refl, sym}
use mathlib.Core.Logic.{◌≢◌}
use mathlib.Core.Bool.{Bool}
use mathlib.Core.List.{List}
use Prim.Native.Nat.{ℕ, ◌+◌, ◌≤◌, min}
use native.Mathlib.Numerals.{add-one}
use native.Mathlib.Omega.{arith}
use lib.Dec.{eqb, ltb}
use borrow.Author.Tests.{le-ltb, eq-eqb, ne_eqb}
use Rattle.laws.specs.Below.{mark, only, min_below, first_below}
use Rattle.laws.proofs.Tests.{by_test}
use Rattle.laws.proofs.Below.{only_true, only_false, min_below-mark, min_below_next, first_below_hit, first_below-only, first_below_not}
use Rattle.paper.specs.Timetable.{Route, stop_at, arrive_at}
use Rattle.paper.specs.Rows.{ride_on}
use Rattle.paper.specs.Work.{first_caught, caught}
use Rattle.paper.proofs.Scan.{Orderly, scan_at, scan_on, scan_is}

-- to look below c only, where c ≤ m, is to look below m and take the less
pub first_below-min : (c m : ℕ) (p : ℕ → Bool) → c ≤ m → first_below c p ≡ min c (first_below m p)
first_below-min c m p h =
    first_below-only c p (min c (first_below m p)) (omega arith)
    (λ j l. first_below_not m p j (omega arith))
    (λ l. let z : min c (first_below m p) ≡ first_below m p = omega arith in rw z (first_below_hit m p (omega arith)))

-- what a scan has for stop s before position k
unfoldable pub scan_to : Route → List ℕ → ℕ → ℕ → ℕ
scan_to R row k s = min_below k λ l. only (eqb (stop_at R l) s) (scan_at R row l)

module _ (R : Route) (row : List ℕ) where
  pub caught_next : (l : ℕ) → caught R row (l + 1) ≡ min (caught R row l) (first_caught R row l)
  unfolding caught
  caught_next l = rw add-one

  -- nothing is left at the first position, since no trip is caught before it
  pub scan_to_one : (s : ℕ) → scan_to R row 1 s ≡ mark
  unfolding scan_to min_below scan_at caught
  scan_to_one s =
      let e = only_false (ltb R.m R.m) (arrive_at R R.m 0) (le-ltb R.m R.m (omega arith)) in
      rw e
      (by_test (eqb (stop_at R 0) s)
      (λ t. rw (only_true (eqb (stop_at R 0) s) mark t) (omega arith))
      (λ t. rw (only_false (eqb (stop_at R 0) s) mark t) (omega arith)))

  -- one position more: at its stop, and at the others
  pub scan_to_at : (k : ℕ) → scan_to R row (k + 1) (stop_at R k) ≡ min (scan_to R row k (stop_at R k)) (scan_at R row k)
  unfolding scan_to
  scan_to_at k = rw (min_below_next, only_true (eqb (stop_at R k) (stop_at R k)) (scan_at R row k) (eq-eqb (stop_at R k) (stop_at R k) refl))

  pub scan_to_off : (k s : ℕ) → s ≢ stop_at R k → scan_to R row (k + 1) s ≡ scan_to R row k s
  unfolding scan_to
  scan_to_off k s h =
      let m = min_below-mark k (λ l. only (eqb (stop_at R l) s) (scan_at R row l)) in
      rw (min_below_next, only_false (eqb (stop_at R k) s) (scan_at R row k) (ne_eqb (stop_at R k) s (λ q. h (sym q)))) (omega arith)

  pub scan_to_all : Orderly R → (s : ℕ) → scan_to R row R.n s ≡ ride_on R row s
  unfolding scan_to scan_on
  scan_to_all order s = sym (scan_is R order row s)
