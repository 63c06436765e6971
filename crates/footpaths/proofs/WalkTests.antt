-- 10, as the code tests it.
use mathlib.Core.Path.{◌≡◌}
use mathlib.Core.Bool.{Bool, true, false, not, ◌&&◌, ◌||◌}
use Prim.Native.Nat.{ℕ, ◌-◌, ◌≤◌, ◌<◌}
use lib.Dec.{eqb, leb, ltb}
use borrow.Author.Tests.{lt-ltb, le-ltb}
use Rattle.laws.proofs.Checking.{not_ltb}
use Rattle.paper.specs.Timetable.{Tables, walk_from, walk_to, walk_seconds}
use Rattle.paper.specs.Rules.{rises, walk_broken}

module _ (T : Tables) (w : ℕ) where
  abbrev own_tests : Bool
  own_tests =
      leb T.stops (walk_from T w) || leb T.stops (walk_to T w) || eqb (walk_from T w) (walk_to T w)
      || ltb (walk_seconds T w) 1 || ltb 3600 (walk_seconds T w)

  walk_tests : walk_broken T w ≡ (own_tests || ltb 0 w && not (rises T (w - 1) w))
  unfolding walk_broken
  walk_tests = simp not_ltb

  pub walk_own : own_tests ≡ true → true ≡ walk_broken T w
  walk_own t = rw (walk_tests, t)

  pub walk_next : own_tests ≡ false → 0 < w → not (rises T (w - 1) w) ≡ walk_broken T w
  walk_next f l = rw (walk_tests, f, lt-ltb 0 w l)

  pub walk_first : own_tests ≡ false → w ≤ 0 → false ≡ walk_broken T w
  walk_first f l = rw (walk_tests, f, le-ltb 0 w l)
