-- The head's tests, one after the other, and the number that each gives.
use mathlib.Core.Path.{◌≡◌, sym, ◌∙◌}
use mathlib.Core.Bool.{Bool, true, false, ◌&&◌}
use mathlib.Core.List.{List}
use Prim.Native.Nat.{ℕ, suc, ◌≤◌, ◌<◌}
use native.Mathlib.Omega.{arith}
use lib.Dec.{eqb}
use lib.ListN.{length}
use borrow.Author.Tests.{eq-eqb, ne_eqb, le-leb, lt-leb}
use Rattle.std.specs.Prelude.{Err}
use Rattle.laws.specs.Fields.{byte, two}
use Rattle.paper.specs.Rules.{refusal}
use Rattle.paper.specs.Reading.{marked, head_bad, head_only}
use Rattle.paper.specs.declared.Refusal.{Refusal}
use Rattle.head.specs.Head.{HeadDone}

pub refused : {b n p : ℕ} {r : Refusal} → b ≡ suc n → (head_only (suc n)).at ≡ p → r ≡ refusal (suc n) p → HeadDone b (Err r)
refused {b} {n} {p} e at i = rw (e, at) ((λ z. absurd (omega arith)), i)

module _ (f : List ℕ) (long : 13 ≤ length f) {b : Bool} (begins : b ≡ marked f (length f) 0 2 0x54 0x48) where
  begun : b ≡ (eqb (byte f 0) 0x54 && eqb (byte f 1) 0x48)
  unfolding marked
  begun = begins ∙ simp (le-leb 2 (length f) (omega arith))

  pub wrong_mark : b ≡ false → head_bad f ≡ 3
  unfolding head_bad
  wrong_mark h = simp (sym begun ∙ h)

  module _ (right : b ≡ true) {x : ℕ} (edition : x ≡ byte f 2) where
    pub wrong_edition : (x ≡ 1 → ⊥) → head_bad f ≡ 4
    unfolding head_bad
    wrong_edition h = simp (sym begun ∙ right, sym edition, ne_eqb _ _ h)

    module _ (one : x ≡ 1) {k : ℕ} (routes : k ≡ byte f 4) where
      pub many_routes : 64 < k → head_bad f ≡ 5
      unfolding head_bad
      many_routes h = simp (sym begun ∙ right, sym edition, eq-eqb _ _ one, sym routes, lt-leb _ _ h)

      module _ (few : k ≤ 64) {w : ℕ} (walks : w ≡ two f 5) where
        pub many_walks : 512 < w → head_bad f ≡ 5
        unfolding head_bad
        many_walks h = simp (sym begun ∙ right, sym edition, eq-eqb _ _ one, sym routes, le-leb _ _ few, sym walks, lt-leb _ _ h)

        pub good_head : w ≤ 512 → head_bad f ≡ 0
        unfolding head_bad
        good_head h = simp (sym begun ∙ right, sym edition, eq-eqb _ _ one, sym routes, le-leb _ _ few, sym walks, le-leb _ _ h)
