-- The ways through an answer, each with the lines that it ends in.
use Rattle.std.specs.Prelude.{Option, Some, None}
use Rattle.std.specs.Option.{unwrap_or}
use mathlib.Core.Path.{◌≡◌, refl, sym, ap, ◌∙◌}
use mathlib.Core.Bool.{Bool, true, false}
use mathlib.Core.List.{List}
use Prim.Native.Nat.{ℕ, ◌≤◌}
use native.Mathlib.Omega.{arith}
use lib.Dec.{leb}
use lib.ListN.{length, drop, get_or, replicate, length-append, length-replicate, length-take}
use borrow.Author.Tests.{le-leb, le-ltb}
use Rattle.laws.specs.Lists.{over}
use Rattle.laws.proofs.Below.{any_below_all_false}
use Rattle.paper.specs.Timetable.{Tables}
use Rattle.paper.specs.Rules.{refusal}
use Rattle.paper.specs.declared.Refusal.{Refusal}
use Rattle.paper.specs.Reply.{zero_entry}
use Rattle.paper.specs.Lines.{refused_line, answer_lines, reply_lines, asked, question_lines, question_of}
use Rattle.paper.specs.declared.Question.{Question}
use Rattle.paper.specs.declared.Answer.{Answer}
use Rattle.paper.proofs.Printing.{Few, reply_few, reply_legs}
use Rattle.planner.specs.Asked.{Replied}
use Rattle.answer_lines.specs.Printing.{overlong, printable, Prints, Rendered}
use Rattle.answer_lines.proofs.Prints.{is_printable}
use Rattle.dialogue.specs.Says.{Says}

-- ---- lines in the front of the buffer

-- no second answer, and no other buffer, meets the promise
pub says_one : {xs d e f : List ℕ} {r s : ℕ} → Says xs d e r → Says xs d f s → (r ≡ s) × (e ≡ f)
says_one p q = (p.long ∙ sym q.long, p.is ∙ sym q.is)

-- what was printed, and its length: it is within the buffer, since it stands there
pub printed_says : {b : Bool} {xs d e : List ℕ} {r : Option ℕ} {n : ℕ} → b ≡ true → Prints b xs d e r → n ≡ unwrap_or r 0 → Says xs d e n
printed_says {xs = xs} {d} {e} {r} {n} can p h =
    let a : r ≡ Some (length xs) = p.answer ∙ rw can in
    let l : n ≡ length xs = h ∙ rw a in
    let w : e ≡ over xs d = p.after ∙ rw can in
    let s = ap length w ∙ length-append xs (drop (length xs) d) in
    let k : n ≤ length e = omega arith in
    record { is = w; long = l; within = k; front = rw length-take (omega arith) }

-- a refusal's line has room wherever an answer's lines have
pub refusal_says : {xs d e : List ℕ} {r : Option ℕ} {n : ℕ} → 4311 ≤ length d → Prints (leb 30 (length d)) xs d e r → n ≡ unwrap_or r 0 → Says xs d e n
refusal_says {d = d} h = printed_says (le-leb 30 (length d) (omega arith))

few_short : {a : Answer} → Few a → overlong a.count a.entries ≡ false
unfolding overlong
few_short {a} f =
    any_below_all_false a.count _ (λ i l. le-ltb 8 (get_or a.entries i zero_entry).rides (f.eight i l))

-- ---- a question asked of tables as they are held

-- a line of another shape
pub unread_says :
    (T : Tables) {q : Option Question} {x : Refusal} {d e : List ℕ} {n : ℕ}
    → None ≡ q → x ≡ refusal 12 0 → Says (refused_line x.number x.place) d e n → Says (question_lines T q) d e n
unfolding question_lines
unread_says T o h s = rw (← o) (rw h at s)

module _ (T : Tables) (q : Question) (d : List ℕ) (h : 4311 ≤ length d) where
  reply_fits : printable (asked T q).answer (asked T q).legs d ≡ true
  reply_fits =
      let f = reply_few T q (replicate 2304 0) (replicate 320 0) in
      let l = reply_legs T q (replicate 2304 0) (replicate 320 0) (rw length-replicate (omega arith)) ∙ length-replicate {A = ℕ} 320 0 in
      is_printable (asked T q).answer (asked T q).legs d h (omega arith) f.nine (few_short f)

  module _ {a : Answer} {labels legs e : List ℕ} {r : Option ℕ} {n : ℕ} (x : Replied (asked T q) a labels legs) (p : Rendered a legs d e r) (g : n ≡ unwrap_or r 0) where
    asked_fits : printable a legs d ≡ true
    asked_fits = rw (x.answer_is, x.legs_are) reply_fits

    pub asked_says : {o : Option Question} → Some q ≡ o → Says (question_lines T o) d e n
    unfolding question_lines reply_lines
    asked_says o =
        let s : Says (answer_lines a legs) d e n = printed_says asked_fits p g in
        rw (← o, ← x.answer_is, ← x.legs_are) s
