-- A fold that tests each element of a list and leaves nowhere early: where it ends true, each element passes the test.
use mathlib.Core.Path.{◌≡◌}
use mathlib.Core.Bool.{Bool, true, ◌&&◌}
use mathlib.Core.List.{List, [], ◌∷◌}
use Prim.Native.Nat.{ℕ, zero, suc, ◌<◌}
use native.Mathlib.Omega.{arith}
use lib.ListN.{length, get_or}
use Rattle.std.specs.Prelude.{fold}
use Rattle.laws.proofs.Tests.{and_both}

module _ {A : Type 0} (p : A → Bool) where
  begun_true : (begun : Bool) (xs : List A) → fold (λ all x. all && p x) begun xs ≡ true → begun ≡ true
  begun_true begun [] e = e
  begun_true begun (x ∷ xs) e = (and_both begun (p x) (begun_true (begun && p x) xs e)).0

  pub each_passes : (begun : Bool) (xs : List A) → fold (λ all x. all && p x) begun xs ≡ true → (i : ℕ) (d : A) → i < length xs → p (get_or xs i d) ≡ true
  each_passes begun [] e i d l = absurd (omega arith)
  each_passes begun (x ∷ xs) e zero d l = (and_both begun (p x) (begun_true (begun && p x) xs e)).1
  each_passes begun (x ∷ xs) e (suc i) d l = each_passes (begun && p x) xs e i d (omega arith)
