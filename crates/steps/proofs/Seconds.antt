-- The seconds of the walks to a stop: what the loop that fills them keeps, and its two kinds of turn.
use mathlib.Core.Path.{◌≡◌, refl, sym, ap, ◌∙◌}
use mathlib.Core.Bool.{Bool, true, false, cond}
use mathlib.Core.List.{List}
use Prim.Native.Nat.{ℕ, ◌+◌, ◌*◌, ◌<◌}
use native.Mathlib.Omega.{arith}
use borrow.Author.Tests.{eqb-true, eq-eqb, lt-ltb, le-ltb}
use lib.Dec.{eqb}
use lib.ListN.{get_or, set, replicate, length-replicate, get_or-replicate}
use Rattle.laws.specs.Below.{first_below}
use Rattle.laws.specs.Lists.{tab}
use Rattle.laws.proofs.Tests.{by_test, by_lt, and_both, and_true}
use Rattle.laws.proofs.Below.{first_below_le, first_below_not, first_below_hit, first_below_is, first_below-only, passed_more}
use Rattle.laws.proofs.Lists.{tab_ext, tab_same}
use Rattle.laws.proofs.Runs.{set-tab}
use Rattle.steps.specs.Search.{joins, seconds_below, seconds_to, WalksIn}

cond_true : {b : Bool} (x y : ℕ) → b ≡ true → cond b x y ≡ x
cond_true x y e = rw e

cond_false : {b : Bool} (x y : ℕ) → b ≡ false → cond b x y ≡ y
cond_false x y e = rw e

joins_is : (t5 : List ℕ) (s p w : ℕ) → joins t5 s p w ≡ true → (get_or t5 (w * 3) 0 ≡ s) × (get_or t5 (w * 3 + 1) 0 ≡ p)
joins_is t5 s p w e =
    let b = and_both (eqb (get_or t5 (w * 3) 0) s) (eqb (get_or t5 (w * 3 + 1) 0) p) e in
    (eqb-true _ _ b.0, eqb-true _ _ b.1)

module _ (t5 : List ℕ) (p : ℕ) where
  abbrev first : ℕ → ℕ → ℕ
  first k s = first_below k (joins t5 s p)

  pub seconds_hit : (k s w : ℕ) → first k s ≡ w → w < k → seconds_below t5 p k s ≡ get_or t5 (w * 3 + 2) 0
  unfolding seconds_below
  seconds_hit k s w e l = rw e (cond_true _ _ (lt-ltb w k l))

  pub seconds_miss : (k s : ℕ) → first k s ≡ k → seconds_below t5 p k s ≡ 0
  unfolding seconds_below
  seconds_miss k s e = cond_false _ _ (le-ltb (first k s) k (omega arith))

  -- a walk that does not join s and p changes nothing at s
  seconds_skip : (w s : ℕ) → joins t5 s p w ≡ false → seconds_below t5 p (w + 1) s ≡ seconds_below t5 p w s
  seconds_skip w s apart =
      let le = first_below_le w (joins t5 s p) in
      by_lt (first w s) w
      (λ l. seconds_hit (w + 1) s (first w s)
      (first_below_is (w + 1) (joins t5 s p) (first w s) (omega arith) (first_below_hit w (joins t5 s p) l) (first_below_not w (joins t5 s p)))
      (omega arith)
      ∙ sym (seconds_hit w s (first w s) refl l))
      (λ l. let e : first w s ≡ w = omega arith in
      seconds_miss (w + 1) s
      (first_below-only (w + 1) (joins t5 s p) (w + 1) (omega arith)
      (passed_more (joins t5 s p) w (rw e at (first_below_not w (joins t5 s p))) apart) (λ z. absurd (omega arith)))
      ∙ sym (seconds_miss w s e))

  pub seconds_start : replicate {A = ℕ} 256 0 ≡ tab 256 (seconds_below t5 p 0)
  seconds_start =
      tab_ext 256 (seconds_below t5 p 0) (replicate 256 0) 0 (length-replicate {A = ℕ} 256 0)
      (λ s l. get_or-replicate {A = ℕ} 256 s 0 0 l ∙ sym (seconds_miss 0 s (let le = first_below_le 0 (joins t5 s p) in omega arith)))

  module _ (count w : ℕ) (in5 : WalksIn t5 count) (l : w < count) {seconds : List ℕ} (so_far : seconds ≡ tab 256 (seconds_below t5 p w)) where
    -- walk w does not come to p
    pub seconds_keep : (get_or t5 (w * 3 + 1) 0 ≡ p → ⊥) → seconds ≡ tab 256 (seconds_below t5 p (w + 1))
    seconds_keep h =
        so_far
        ∙ tab_same 256 _ _
        (λ s m. sym (seconds_skip w s (by_test (joins t5 s p w) (λ t. absurd (h (joins_is t5 s p w t).1)) (λ f. f))))

    -- it does: no walk before it joins the same stops
    pub seconds_store : get_or t5 (w * 3 + 1) 0 ≡ p → set seconds (get_or t5 (w * 3) 0) (get_or t5 (w * 3 + 2) 0) ≡ tab 256 (seconds_below t5 p (w + 1))
    seconds_store e =
        ap (λ (xs : List ℕ). set xs (get_or t5 (w * 3) 0) (get_or t5 (w * 3 + 2) 0)) so_far
        ∙ set-tab 256 _ _ (get_or t5 (w * 3) 0) (get_or t5 (w * 3 + 2) 0) (in5.from< w l)
        (seconds_hit (w + 1) (get_or t5 (w * 3) 0) w
        (first_below_is (w + 1) (joins t5 (get_or t5 (w * 3) 0) p) w (omega arith)
        (and_true _ _ (eq-eqb (get_or t5 (w * 3) 0) (get_or t5 (w * 3) 0) refl) (eq-eqb _ _ e))
        (λ i m. by_test (joins t5 (get_or t5 (w * 3) 0) p i)
        (λ t. let b = joins_is t5 (get_or t5 (w * 3) 0) p i t in
        let z : i ≡ w = in5.once i w (omega arith) l b.0 (b.1 ∙ sym e) in
        absurd (omega arith))
        (λ f. f)))
        (omega arith))
        (λ s ne. seconds_skip w s (by_test (joins t5 s p w) (λ t. absurd (ne (sym (joins_is t5 s p w t).0))) (λ f. f)))

  pub seconds_end : (count w : ℕ) {seconds : List ℕ} → w ≡ count → seconds ≡ tab 256 (seconds_below t5 p w) → seconds ≡ seconds_to t5 count p
  unfolding seconds_to
  seconds_end count w e h = rw (← e) h
