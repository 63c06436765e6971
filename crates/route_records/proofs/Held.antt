-- A table that is filled from the front, over several calls.
use mathlib.Core.Path.{◌≡◌, refl, sym, ap, ◌∙◌, subst}
use mathlib.Core.List.{List, ◌++◌}
use Prim.Native.Nat.{ℕ, zero, suc, ◌+◌, ◌-◌, ◌≤◌}
use native.Mathlib.Nat.{add-zero, add-suc}
use native.Mathlib.Omega.{arith}
use lib.ListN.{length, take, length-append}
use lib.Seq.{length-take-le}
use Rattle.laws.specs.Below.{iterate}
use Rattle.laws.specs.Lists.{over, tab, written}
use Rattle.laws.proofs.Lists.{length_over, over-take, take-over, over-over, written_end, written_over}
use Rattle.route_records.specs.Keep.{Holds}

-- n elements were put from k on
pub put_all : (d₀ : List ℕ) (k n : ℕ) (g : ℕ → ℕ) {d : List ℕ} {i : ℕ} → k + n ≤ length d₀ → d ≡ written d₀ k g i → i ≡ n
    → d ≡ over (take k d₀ ++ tab n g) d₀
put_all d₀ k n g {i = i} room h t = written_end d₀ k g i n h t ∙ written_over d₀ k g n (omega arith)

module _ {d : List ℕ} {k n : ℕ} where
  pub holds_front : k ≤ n → k ≤ length d → Holds k n (take k d) d d
  holds_front m h = let l = length-take-le k d h in record { grown = omega (arith, l); most = omega (arith, l); is = sym (over-take d k h); kept = refl }

  pub holds_push : (xs : List ℕ) {d' : List ℕ} → k + length xs ≤ length d → k + length xs ≤ n → d' ≡ over (take k d ++ xs) d → Holds k n (take k d ++ xs) d d'
  holds_push xs h m e =
      let l : length (take k d ++ xs) ≡ k + length xs = omega (arith, length-append (take k d) xs, length-take-le k d (omega (arith, h))) in
      record {
        grown = omega (arith, l);
        most = omega (arith, l);
        is = e;
        kept = ap length e ∙ length_over (take k d ++ xs) d (omega (arith, l));
      }

pub holds_most : {k m n : ℕ} {xs d₀ d : List ℕ} → m ≤ n → Holds k m xs d₀ d → Holds k n xs d₀ d
holds_most l h = record { grown = h.grown; most = omega (arith, h.most); is = h.is; kept = h.kept }

pub holds_take : {k n : ℕ} {xs d₀ d : List ℕ} → Holds k n xs d₀ d → (m : ℕ) → m ≡ length xs → take m d ≡ xs
holds_take {xs = xs} {d₀ = d₀} h m e = ap (take m) h.is ∙ take-over xs d₀ m (sym e)

pub holds_chain : {k l m n : ℕ} {xs ys d₀ d d' : List ℕ} → Holds k m xs d₀ d → Holds l n ys d d' → l ≡ length xs → Holds k n ys d₀ d'
holds_chain {k} {l} {m} {n} {xs} {ys} {d₀} {d} {d'} h g e =
    let t : length xs ≤ length ys = omega (arith, g.grown) in
    record {
      grown = omega (arith, h.grown);
      most = g.most;
      is = g.is ∙ ap (over ys) h.is ∙ over-over ys xs d₀ t;
      kept = g.kept ∙ h.kept;
    }

module _ {A : Type 0} (g : A → A) (x : A) (j : ℕ) (h : g (iterate j g x) ≡ iterate j g x) where
  stays_by : (i : ℕ) → iterate (j + i) g x ≡ iterate j g x
  unfolding iterate
  stays_by zero = rw add-zero refl
  stays_by (suc i) = rw add-suc (ap g (stays_by i) ∙ h)

  -- what g keeps after j times, it keeps from then on
  pub iterate_stays : (k : ℕ) → j ≤ k → iterate k g x ≡ iterate j g x
  iterate_stays k l = let e : j + (k - j) ≡ k = omega arith in subst (λ (n : ℕ). iterate n g x ≡ iterate j g x) e (stays_by (k - j))
