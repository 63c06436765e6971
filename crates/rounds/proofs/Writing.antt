-- What `fill`, `write_row` and `settle` keep, element by element.
use mathlib.Core.Path.{◌≡◌, refl, sym, ap, ◌∙◌}
use mathlib.Core.Bool.{Bool, true, false}
use mathlib.Core.List.{List}
use Prim.Native.Nat.{ℕ, ◌+◌, ◌*◌, ◌-◌, ◌%◌, ◌≤◌, ◌<◌, min}
use native.Mathlib.Nat.{mod-eq_of_lt, mul-add-mod_self_right}
use native.Mathlib.Omega.{arith}
use borrow.Author.Tests.{lt-ltb, le-ltb}
use lib.Dec.{ltb}
use lib.ListN.{length, get_or, set}
use lib.Seq.{ext_get_or}
use Rattle.std.specs.List.{CopiedTo, SameBelow, SameFrom}
use Rattle.laws.specs.Below.{any_below}
use Rattle.laws.specs.Lists.{written}
use Rattle.laws.proofs.Tests.{by_test, by_lt}
use Rattle.laws.proofs.Below.{any_below_next}
use Rattle.laws.proofs.Lists.{written_none, written_store, written-length, written_before, written_at, written_after}
use Rattle.rounds.specs.Round.{Follows, brought, bettered, RowWritten, Settling, settled}

-- ---- write_row

pub record Writing (labels₀ labels : List ℕ) (k stops : ℕ) (reach next : List ℕ) (improved : Bool) (s : ℕ) : Type 0 where
  pub below : s ≤ stops
  pub labels_are : labels ≡ written labels₀ (k * 256 + 256) (bettered labels₀ k reach next) s
  pub improved_is : improved ≡ any_below s λ s. ltb (brought reach next s) (get_or labels₀ (k * 256 + s) 0)

-- what a turn makes of `improved`
pub data Improving (improved : Bool) (new old : ℕ) : Bool → Type 0 where
  improves_now : new < old → Improving improved new old true
  improves_not : old ≤ new → Improving improved new old improved

module _ (labels₀ : List ℕ) (k stops : ℕ) (reach next : List ℕ) where
  pub writing_start : Writing labels₀ labels₀ k stops reach next false 0
  unfolding any_below
  writing_start = record { below = omega arith; labels_are = written_none labels₀ (k * 256 + 256) (bettered labels₀ k reach next); improved_is = refl }

  module _ (pre : Follows (length labels₀) k stops (length reach) (length next)) {labels : List ℕ} {improved : Bool} {s : ℕ} (w : Writing labels₀ labels k stops reach next improved s) where
    fits : k * 256 + 256 + s ≤ length labels₀
    fits = omega (arith, w.below, pre.room, pre.few, pre.stops≤)

    -- row k stands before what was written
    old_is : s < stops → get_or labels (k * 256 + s) 0 ≡ get_or labels₀ (k * 256 + s) 0
    old_is h =
        ap (λ (l : List ℕ). get_or l (k * 256 + s) 0) w.labels_are
        ∙ written_before labels₀ (k * 256 + 256) (bettered labels₀ k reach next) s fits (k * 256 + s) 0 (omega (arith, pre.stops≤))

    next_improved : (new old : ℕ) {improved' : Bool} → new ≡ brought reach next s → old ≡ get_or labels₀ (k * 256 + s) 0 → Improving improved new old improved' → improved' ≡ any_below (s + 1) λ s. ltb (brought reach next s) (get_or labels₀ (k * 256 + s) 0)
    next_improved new old e o (improves_now h) =
        rw (any_below_next s (λ s. ltb (brought reach next s) (get_or labels₀ (k * 256 + s) 0)), ← e, ← o, lt-ltb new old h)
        (by_test (any_below s (λ s. ltb (brought reach next s) (get_or labels₀ (k * 256 + s) 0))) (λ t. rw t) (λ t. rw t))
    next_improved new old e o (improves_not h) =
        rw (any_below_next s (λ s. ltb (brought reach next s) (get_or labels₀ (k * 256 + s) 0)), ← e, ← o, le-ltb new old h, ← w.improved_is)
        (by_test improved (λ t. rw t) (λ t. rw t))

    pub writing_step :
        {new label : ℕ} {improved' : Bool} → s < stops → new ≡ min (get_or reach s 0) (get_or next s 0) → label ≡ min (get_or labels (k * 256 + s) 0) new
        → Improving improved new (get_or labels (k * 256 + s) 0) improved'
        → Writing labels₀ (set labels (k * 256 + 256 + s) label) k stops reach next improved' (s + 1)
    writing_step {new} {label} {improved'} h e l i =
        record {
          below = omega arith;
          labels_are = written_store labels₀ (k * 256 + 256) (bettered labels₀ k reach next) s w.labels_are refl (l ∙ rw (old_is h, e)) (omega (arith, pre.room, pre.few, pre.stops≤));
          improved_is = next_improved new (get_or labels (k * 256 + s) 0) e (old_is h) i;
        }

    pub writing_end : stops ≤ s → RowWritten labels₀ labels k stops reach next improved
    writing_end h =
        let z : s ≡ stops = omega (arith, w.below) in
        record { labels_are = rw z at w.labels_are; improved_is = rw z at w.improved_is }

-- ---- settle

-- a run with a block written after it
written_block : (d : List ℕ) (at : ℕ) (f : ℕ → ℕ) (j n z : ℕ) {l l' : List ℕ} → at + (j + n) ≤ length d → l ≡ written d at f j → length l' ≡ length l
    → ((i : ℕ) → i < at + j → get_or l' i z ≡ get_or l i z) → ((i : ℕ) → i < n → get_or l' (at + j + i) z ≡ f (j + i))
    → ((i : ℕ) → at + j + n ≤ i → get_or l' i z ≡ get_or l i z) → l' ≡ written d at f (j + n)
written_block d at f j n z {l} {l'} fits e long before block after =
    let was : at + j ≤ length d = omega arith in
    let same : (i : ℕ) → get_or l i z ≡ get_or (written d at f j) i z = λ i. ap (λ (xs : List ℕ). get_or xs i z) e in
    ext_get_or z l' (written d at f (j + n)) (long ∙ ap length e ∙ written-length d at f j was ∙ sym (written-length d at f (j + n) fits))
    (λ i _. by_lt i at
    (λ h. before i (omega arith) ∙ same i ∙ written_before d at f j was i z h ∙ sym (written_before d at f (j + n) fits i z h))
    (λ h. by_lt i (at + j)
    (λ m. before i m ∙ same i ∙ written_at d at f j was i (i - at) z (omega arith) (omega arith) ∙ sym (written_at d at f (j + n) fits i (i - at) z (omega arith) (omega arith)))
    (λ m. by_lt i (at + j + n)
    (λ o. let p : i ≡ at + j + (i - (at + j)) = omega arith in
    ap (λ (x : ℕ). get_or l' x z) p ∙ block (i - (at + j)) (omega arith) ∙ sym (written_at d at f (j + n) fits i (j + (i - (at + j))) z (omega arith) (omega arith)))
    (λ o. after i o ∙ same i ∙ written_after d at f j was i z (omega arith) ∙ sym (written_after d at f (j + n) fits i z (omega arith))))))

-- element i after row k + 1's first
pub again : List ℕ → ℕ → ℕ → ℕ
again labels k i = get_or labels (k * 256 + i % 256) 0

-- the rows after row k, up to row j, equal it
pub record Repeating (labels₀ labels : List ℕ) (k limit j : ℕ) : Type 0 where
  pub from : k ≤ j
  pub below : j ≤ limit
  pub labels_are : labels ≡ written labels₀ (k * 256 + 256) (again labels₀ k) ((j - k) * 256)

module _ (labels₀ : List ℕ) (k limit : ℕ) (pre : Settling (length labels₀) k limit) where
  pub repeating_start : Repeating labels₀ labels₀ k limit k
  repeating_start =
      let z : (k - k) * 256 ≡ 0 = omega arith in
      record { from = omega arith; below = pre.below; labels_are = rw z (written_none labels₀ (k * 256 + 256) (again labels₀ k)) }

  module _ {labels : List ℕ} {j : ℕ} (r : Repeating labels₀ labels k limit j) where
    fits_too : {n : ℕ} → n ≤ limit - k → k * 256 + 256 + n * 256 ≤ length labels₀
    fits_too h = omega (arith, pre.room, pre.below, pre.few)

    -- row k stands before what was written
    copied : (i : ℕ) → i < 256 → get_or labels (k * 256 + i) 0 ≡ get_or labels₀ (k * 256 + i) 0
    copied i h =
        ap (λ (l : List ℕ). get_or l (k * 256 + i) 0) r.labels_are
        ∙ written_before labels₀ (k * 256 + 256) (again labels₀ k) ((j - k) * 256) (fits_too (omega (arith, r.below))) (k * 256 + i) 0 (omega arith)

    pub repeating_step : {labels' : List ℕ} {n : ℕ} → j < limit → n ≡ 256 → length labels' ≡ length labels
        → CopiedTo labels labels' (k * 256) (j * 256 + 256) n → SameBelow labels labels' (j * 256 + 256) → SameFrom labels labels' (j * 256 + 256 + n)
        → Repeating labels₀ labels' k limit (j + 1)
    unfolding again
    repeating_step h size long row before after =
        let more : (j + 1 - k) * 256 ≡ (j - k) * 256 + 256 = omega (arith, r.from) in
        record {
          from = omega (arith, r.from);
          below = omega arith;
          labels_are = rw more
              (written_block labels₀ (k * 256 + 256) (again labels₀ k) ((j - k) * 256) 256 0 (omega (arith, pre.room, pre.below, pre.few, r.from)) r.labels_are long
              (λ i l. before i 0 (omega (arith, r.from)))
              (λ i l. let m : ((j - k) * 256 + i) % 256 ≡ i = mul-add-mod_self_right (j - k) 256 i ∙ mod-eq_of_lt l in
              row (k * 256 + 256 + (j - k) * 256 + i) 0 (omega (arith, r.from)) (omega (arith, r.from))
              ∙ ap (λ (x : ℕ). get_or labels (k * 256 + x) 0) (omega (arith, r.from))
              ∙ copied i l ∙ rw m)
              (λ i l. after i 0 (omega (arith, r.from))));
        }

    pub repeating_end : limit ≤ j → labels ≡ settled labels₀ k limit
    unfolding settled again
    repeating_end h = let z : j ≡ limit = omega (arith, r.below) in rw z at r.labels_are
