-- The feed's length and its sum.
use mathlib.Core.Path.{◌≡◌, ◌∙◌}
use mathlib.Core.Bool.{true}
use mathlib.Core.List.{List}
use Prim.Native.Nat.{ℕ, ◌+◌, ◌-◌, ◌≤◌}
use native.Mathlib.Omega.{arith}
use lib.ListN.{length, take}
use lib.Dec.{eqb, leb}
use borrow.Author.Tests.{eq-eqb, ne_eqb, leb-true}
use Rattle.laws.specs.Fields.{byte}
use Rattle.laws.proofs.Tests.{and_both}
use Rattle.paper.specs.Feed.{fletcher_of}
use Rattle.paper.specs.Reading.{length_right, sum_right}
use Rattle.paper.specs.declared.Sum.{Sum}

module _ (f : List ℕ) (long : 13 ≤ length f) {x : ℕ} {s : Sum}
    (ex : x ≡ byte f (length f - 2 + 0)) (es : s ≡ fletcher_of (take (length f - 2) f)) where
  first : x ≡ byte f (length f - 2)
  first = let m : length f - 2 + 0 ≡ length f - 2 = omega arith in ex ∙ (λ i. byte f (m i))

  pub sum_first : x ≡ s.first → {y : ℕ} → y ≡ byte f (length f - 2 + 1) → eqb y s.second ≡ sum_right f
  unfolding sum_right
  sum_first q {y} ey =
      let m : length f - 2 + 1 ≡ length f - 1 = omega arith in
      let second : y ≡ byte f (length f - 1) = ey ∙ (λ i. byte f (m i)) in
      rw (← es, ← first, ← second) (simp (eq-eqb _ _ q))

  pub sum_not : (x ≡ s.first → ⊥) → eqb x s.first ≡ sum_right f
  unfolding sum_right
  sum_not q = rw (← es, ← first) (simp (ne_eqb _ _ q))

pub length_bounds : (f : List ℕ) → length_right f ≡ true → (13 ≤ length f) × (length f ≤ 17869)
unfolding length_right
length_bounds f h =
    let a = and_both (leb 13 (length f)) _ h in
    (leb-true 13 (length f) a.0, leb-true (length f) 17869 (and_both (leb (length f) 17869) _ a.1).0)
