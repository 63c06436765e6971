-- From the tests that the printing functions make to what they promise.
use Rattle.std.specs.Prelude.{Option, Some, None, Ok, Err}
use mathlib.Core.Path.{◌≡◌, refl, sym, ◌∙◌}
use mathlib.Core.Bool.{Bool, true, false}
use mathlib.Core.List.{List}
use Prim.Native.Nat.{ℕ, ◌≤◌, ◌<◌}
use native.Mathlib.Omega.{arith}
use lib.ListN.{length, get_or, take}
use borrow.Author.Tests.{le-leb, lt-leb}
use Rattle.laws.specs.Lists.{pieces}
use Rattle.paper.specs.declared.Refusal.{Refusal}
use Rattle.paper.specs.Reply.{zero_entry}
use Rattle.paper.specs.Lines.{journeys_line, refused_line, entry_lines, verdict_lines, answer_lines}
use Rattle.paper.specs.declared.Answer.{Answer}
use Rattle.lettering.specs.declared.Pen.{Pen}
use Rattle.lettering.specs.Put.{Wrote}
use Rattle.answer_lines.specs.Room.{AnswerRoom}
use Rattle.answer_lines.specs.Printing.{printable, overlong, Prints}
use Rattle.lettering.proofs.Puts.{wrote_append, wrote_same}
use Rattle.answer_lines.proofs.Looked.{first_entries, none_long}

pub prints_none : {b : Bool} {xs d : List ℕ} → b ≡ false → Prints b xs d d None
prints_none {b} {xs} {d} h = record { answer = rw h; after = rw h }

-- what the pen put from the front on, in the buffer that it held
pub prints_done :
    {b : Bool} {xs e : List ℕ} {m : ℕ} {p q : Pen} → b ≡ true → Wrote xs m p q → p.at ≡ 0 → e ≡ q.out.now → Prints b xs p.out.now e (Some q.at)
prints_done {b} {xs} {e} {m} {p} {q} h w start last =
    let z : q.at ≡ length xs = omega (arith, w.put.next) in
    record { answer = rw (h, z); after = last ∙ w.put.is ∙ rw (start, h, z) }

-- no second answer, and no other buffer, meets the promise
pub prints_one : {b : Bool} {xs d e f : List ℕ} {r s : Option ℕ} → Prints b xs d e r → Prints b xs d f s → (r ≡ s) × (e ≡ f)
prints_one p q = (p.answer ∙ sym q.answer, p.after ∙ sym q.after)

pub put_answered :
    (a : Answer) (legs : List ℕ) {work : ℕ} {p q r : Pen}
    → a.verdict ≡ Ok work → a.count ≤ length a.entries
    → Wrote (journeys_line a.count work) 36 p q
    → Wrote (pieces (length (take a.count a.entries)) (λ i. entry_lines legs (get_or (take a.count a.entries) i zero_entry))) 4275 q r
    → Wrote (answer_lines a legs) 4311 p r
unfolding answer_lines verdict_lines
put_answered a legs h l v w =
    rw h (wrote_append v (rw (first_entries (entry_lines legs) a.count a.entries l) at w))

pub put_refusal :
    (a : Answer) (legs : List ℕ) {x : Refusal} {p q : Pen}
    → a.verdict ≡ Err x → Wrote (refused_line x.number x.place) 30 p q → Wrote (answer_lines a legs) 4311 p q
unfolding answer_lines verdict_lines
put_refusal a legs h w = rw h (wrote_same refl (omega arith) w)

module _ (a : Answer) (legs d : List ℕ) where
  pub no_room : length d < 4311 → printable a legs d ≡ false
  unfolding printable
  no_room h = rw (lt-leb 4311 (length d) h)

  pub no_table : 4311 ≤ length d → length legs < 320 → printable a legs d ≡ false
  unfolding printable
  no_table h l = rw (le-leb 4311 (length d) h, lt-leb 320 (length legs) l)

  pub many : 4311 ≤ length d → 320 ≤ length legs → 9 < a.count → printable a legs d ≡ false
  unfolding printable
  many h l k = rw (le-leb 4311 (length d) h, le-leb 320 (length legs) l, lt-leb a.count 9 k)

  pub is_long : 4311 ≤ length d → 320 ≤ length legs → a.count ≤ 9 → overlong a.count a.entries ≡ true → printable a legs d ≡ false
  unfolding printable
  is_long h l k o = rw (le-leb 4311 (length d) h, le-leb 320 (length legs) l, le-leb a.count 9 k, o)

  pub is_printable : 4311 ≤ length d → 320 ≤ length legs → a.count ≤ 9 → overlong a.count a.entries ≡ false → printable a legs d ≡ true
  unfolding printable
  is_printable h l k o = rw (le-leb 4311 (length d) h, le-leb 320 (length legs) l, le-leb a.count 9 k, o)

pub has_room :
    {a : Answer} {legs : List ℕ} {p : Pen} → p.at ≡ 0 → 4311 ≤ length p.out.now → 320 ≤ length legs → a.count ≤ 9 → overlong a.count a.entries ≡ false
    → AnswerRoom a legs p
has_room {a} s h l k o = record { room = omega arith; table = l; nine = k; few = none_long a.count a.entries o }
