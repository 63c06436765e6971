-- Laws of lowest_of, in the words of a loop that asks one place after the other.
use mathlib.Core.Path.{◌≡◌, sym}
use mathlib.Core.Bool.{Bool, true, false}
use Rattle.std.specs.Prelude.{Option, Some, None, MatchOption}
use Prim.Native.Nat.{ℕ, ◌≤◌, ◌<◌}
use native.Mathlib.Omega.{arith}
use Rattle.laws.specs.Below.{given}
use Rattle.laws.proofs.Tests.{by_test}
use Rattle.laws.proofs.Below.{Passed}
use Rattle.laws.proofs.Found.{some_none, some_same, given_true, given_false, given_some, first_found_none, first_found_never, first_found_hit, first_found_is}
use Rattle.paper.specs.Rules.{lowest_of}

-- what is given where the test holds is nothing: the test does not hold
pub given_nothing : {A : Type 0} (b : Bool) (a : A) → given b (Some a) ≡ None → b ≡ false
given_nothing b a e = by_test b (λ t. absurd (some_none (given_true (Some a) t) e)) (λ f. f)

-- i is the lowest number below k of which the test holds
pub record LowestAt (k : ℕ) (p : ℕ → Bool) (i : ℕ) : Type 0 where
  pub below : i < k
  pub broken : p i ≡ true
  pub none_lower : Passed p i

module _ (k : ℕ) (p : ℕ → Bool) where
  pub lowest_is : (i : ℕ) → i < k → Passed p i → p i ≡ true → lowest_of k p ≡ Some i
  unfolding lowest_of
  lowest_is i l h t = first_found_is k _ i l (given_true (Some i) t) (λ j m. given_false (Some j) (h j m))

  pub lowest_none : Passed p k → lowest_of k p ≡ None
  unfolding lowest_of
  lowest_none h = first_found_none k _ (λ i l. given_false (Some i) (h i l))

  pub lowest_passed : lowest_of k p ≡ None → Passed p k
  unfolding lowest_of
  lowest_passed e i l = given_nothing (p i) i (first_found_never k _ e i l)

  pub lowest_hit : (i : ℕ) → lowest_of k p ≡ Some i → LowestAt k p i
  unfolding lowest_of
  lowest_hit i e =
      let x = first_found_hit k _ i e in
      let g = given_some (p x.at) (Some x.at) x.is in
      let z : x.at ≡ i = some_same g.1 in
      record {
        below = rw z at x.below;
        broken = rw z at g.0;
        none_lower = λ j l. given_nothing (p j) j (x.none_before j (rw z l));
      }

  -- as a search through the numbers from 0 on tells it
  pub lowest_sought :
      (r : Option ℕ) → MatchOption r ((i : ℕ) → 0 ≤ i → i < k → p i ≡ false) (λ i. (0 ≤ i) × (i < k) × (p i ≡ true) × ((j : ℕ) → 0 ≤ j → j < i → p j ≡ false))
      → r ≡ lowest_of k p
  lowest_sought None h = sym (lowest_none (λ i l. h i (omega arith) l))
  lowest_sought (Some i) h = sym (lowest_is i h.1 (λ j l. h.3 j (omega arith) l) h.2)

  -- as a loop that asks one place after the other tells it, where it leaves and where it ends
  pub at_lowest : (i : ℕ) → i < k → Passed p i → p i ≡ true → Some i ≡ lowest_of k p
  at_lowest i l h t = sym (lowest_is i l h t)

  pub no_lowest : (i : ℕ) → i ≡ k → Passed p i → None ≡ lowest_of k p
  no_lowest i e h = sym (lowest_none (rw (← e) h))
