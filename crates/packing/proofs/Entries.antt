-- The nineteen numbers of the entries, stored one after the other.
use mathlib.Core.Path.{◌≡◌, refl, sym, ap, ◌∙◌}
use mathlib.Core.List.{List, [], ◌∷◌, ◌++◌, append_assoc}
use Prim.Native.Nat.{ℕ, suc, ◌+◌, ◌*◌, ◌≤◌, ◌<◌}
use native.Mathlib.Numerals.{add-one}
use native.Mathlib.Omega.{arith}
use lib.ListN.{length, get_or, set, length-append, length-set}
use borrow.Author.Tests.{lt-ltb, le-ltb}
use Rattle.laws.specs.Lists.{over, pieces}
use Rattle.laws.proofs.Lists.{over_store, over-over, length-pieces}
use Rattle.paper.specs.Reply.{zero_entry}
use Rattle.paper.specs.declared.Entry.{Entry}
use Rattle.packing.specs.Packed.{pair_of, entry_numbers, entries_after}

-- the count and the first i pairs
abbrev pub front : ℕ → List Entry → ℕ → List ℕ
front count es i = count ∷ pieces i (λ j. pair_of (get_or es j zero_entry))

-- i pairs are stored in d₀, which has become d
pub record Storing (count : ℕ) (es : List Entry) (d₀ d : List ℕ) (i : ℕ) : Type 0 where
  pub i≤ : i ≤ 9
  pub is : d ≡ over (front count es i) d₀

length_front : (count : ℕ) (es : List Entry) (i : ℕ) → length (front count es i) ≡ 2 * i + 1
length_front count es i = omega (arith, length-pieces i (λ j. pair_of (get_or es j zero_entry)) 2 (λ _ _. refl))

front_none : (count : ℕ) (es : List Entry) → front count es 0 ≡ count ∷ []
unfolding pieces
front_none count es = refl

front_more : (count : ℕ) (es : List Entry) (i : ℕ) → front count es (suc i) ≡ front count es i ++ pair_of (get_or es i zero_entry)
unfolding pieces
front_more count es i = refl

count_stored : (count : ℕ) (d : List ℕ) → 19 ≤ length d → set d 0 count ≡ over (count ∷ []) d
count_stored count d h = over_store [] d count 0 refl (omega arith)

pub storing_start : (count : ℕ) (es : List Entry) (d : List ℕ) → 19 ≤ length d → Storing count es (set d 0 count) (set d 0 count) 0
storing_start count es d h = record {
  i≤ = omega arith;
  is =
      count_stored count d h
      ∙ sym (over-over (front count es 0) (count ∷ []) d (omega (arith, length_front count es 0)) ∙ ap (λ (x : List ℕ). over x d) (front_none count es))
      ∙ ap (λ (x : List ℕ). over (front count es 0) x) (sym (count_stored count d h));
}

pub storing_more :
    {count : ℕ} {es : List Entry} {d : List ℕ} {i : ℕ} (d₀ : List ℕ) → Storing count es (set d₀ 0 count) d i → i < 9 → 19 ≤ length d₀
    → Storing count es (set d₀ 0 count) (set (set d (2 * i + 1) (get_or es i zero_entry).rides) (2 * i + 2) (get_or es i zero_entry).arrival) (i + 1)
storing_more {count} {es} {d} {i} d₀ s l h =
    let e : Entry = get_or es i zero_entry in
    let xs : List ℕ = front count es i in
    let n : length xs ≡ 2 * i + 1 = length_front count es i in
    let d₁ : List ℕ = set d₀ 0 count in
    let room : 19 ≤ length d₁ = omega (arith, length-set d₀ 0 count) in
    record {
      i≤ = omega arith;
      is =
          ap (λ (x : List ℕ). set (set x (2 * i + 1) e.rides) (2 * i + 2) e.arrival) s.is
          ∙ ap (λ (x : List ℕ). set x (2 * i + 2) e.arrival) (over_store xs d₁ e.rides (2 * i + 1) n (omega arith))
          ∙ over_store (xs ++ (e.rides ∷ [])) d₁ e.arrival (2 * i + 2) (length-append xs (e.rides ∷ []) ∙ omega arith) (omega arith)
          ∙ ap (λ (x : List ℕ). over x d₁) (append_assoc xs (e.rides ∷ []) (e.arrival ∷ []) ∙ sym (front_more count es i) ∙ ap (front count es) (sym (add-one i)));
    }

-- too short: nothing is written
pub short_kept : (count : ℕ) (es : List Entry) (d : List ℕ) → length d < 19 → d ≡ entries_after count es d
unfolding entries_after
short_kept count es d h = rw (lt-ltb (length d) 19 h) refl

pub storing_end :
    {count : ℕ} {es : List Entry} {d : List ℕ} {i : ℕ} (d₀ : List ℕ) → 19 ≤ length d₀ → Storing count es (set d₀ 0 count) d i → 9 ≤ i
    → d ≡ entries_after count es d₀
unfolding entries_after entry_numbers
storing_end {count} {es} {d} {i} d₀ h s l =
    let nine : i ≡ 9 = omega (arith, s.i≤) in
    s.is
    ∙ ap (λ (k : ℕ). over (front count es k) (set d₀ 0 count)) nine
    ∙ ap (λ (x : List ℕ). over (front count es 9) x) (count_stored count d₀ h)
    ∙ over-over (front count es 9) (count ∷ []) d₀ (omega (arith, length_front count es 9))
    ∙ rw (le-ltb (length d₀) 19 h) refl
