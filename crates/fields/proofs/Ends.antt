-- A mark at a record, where it may stand past the feed's end.
use mathlib.Core.Path.{◌≡◌}
use mathlib.Core.Bool.{false, ◌&&◌}
use mathlib.Core.List.{List}
use Prim.Native.Nat.{ℕ, ◌+◌, ◌/◌, ◌%◌, ◌≤◌, ◌<◌}
use native.Mathlib.Nat.{add-zero}
use lib.Dec.{eqb}
use lib.ListN.{length}
use borrow.Author.Tests.{le-leb, lt-leb}
use Rattle.laws.specs.Fields.{byte}
use Rattle.paper.specs.Reading.{marked}

module _ (f : List ℕ) (i m : ℕ) where
  pub begins_not : length f < i + 2 → false ≡ marked f (length f) i 2 (m / 256) (m % 256)
  unfolding marked
  begins_not h = simp (lt-leb _ _ h)

  pub begins_by : {x y : ℕ} → i + 2 ≤ length f → x ≡ byte f (i + 0) → y ≡ byte f (i + 1)
      → (eqb x (m / 256) && eqb y (m % 256)) ≡ marked f (length f) i 2 (m / 256) (m % 256)
  unfolding marked
  begins_by h a b = rw (a, b, add-zero i) (simp (le-leb _ _ h))
