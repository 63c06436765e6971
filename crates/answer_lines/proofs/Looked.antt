-- The first entries of an answer: what their lines are, and what follows where none of them has too many rides.
use mathlib.Core.Path.{◌≡◌, refl, sym, ◌∙◌}
use mathlib.Core.Bool.{Bool, false, ◌||◌}
use mathlib.Core.List.{List}
use Prim.Native.Nat.{ℕ, zero, suc, ◌+◌, ◌≤◌, ◌<◌}
use native.Mathlib.Numerals.{add-one}
use native.Mathlib.Omega.{arith}
use lib.ListN.{length, get_or, take}
use lib.Seq.{length-take-le}
use borrow.Author.Tests.{ltb-false}
use Rattle.std.specs.List.{list_any}
use Rattle.std.proofs.lemmas.List.{get_or-take}
use Rattle.std.proofs.lemmas.List.Folds.{list_any_more}
use Rattle.laws.specs.Below.{any_below}
use Rattle.laws.specs.Lists.{pieces}
use Rattle.laws.proofs.Below.{any_below_none}
use Rattle.laws.proofs.Lists.{pieces_same}
use Rattle.paper.specs.Reply.{zero_entry}
use Rattle.paper.specs.declared.Entry.{Entry}
use Rattle.answer_lines.specs.Printing.{long, overlong}

pub first_entries :
    (f : Entry → List ℕ) (count : ℕ) (es : List Entry) → count ≤ length es
    → pieces (length (take count es)) (λ i. f (get_or (take count es) i zero_entry)) ≡ pieces count (λ i. f (get_or es i zero_entry))
first_entries f count es h =
    let n : length (take count es) ≡ count = length-take-le count es h in
    rw n (pieces_same count _ _ (λ i l. rw (get_or-take count es i zero_entry l) refl))

pub long_first : (count : ℕ) (es : List Entry) → count ≤ length es → list_any long (take count es) ≡ overlong count es
unfolding overlong any_below
long_first zero es h = refl
long_first (suc k) es h =
    let e : list_any long (take (k + 1) es) ≡ (list_any long (take k es) || long (get_or es k zero_entry)) =
    list_any_more long es k zero_entry (omega arith) in
    rw (← add-one k, e, long_first k es (omega arith)) refl

pub long_told : {count : ℕ} (es : List Entry) {r b : Bool} → count ≤ length es → r ≡ list_any long (take count es) → r ≡ b → overlong count es ≡ b
long_told {count} es h e t = sym (long_first count es h) ∙ sym e ∙ t

pub none_long : (count : ℕ) (es : List Entry) → overlong count es ≡ false → (i : ℕ) → i < count → (get_or es i zero_entry).rides ≤ 8
unfolding overlong
none_long count es e i l = ltb-false 8 (get_or es i zero_entry).rides (any_below_none count _ e i l)
