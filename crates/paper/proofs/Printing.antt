-- Every reply can be printed: it has at most nine entries of at most eight rides, and its legs table keeps its size.
use mathlib.Core.Path.{◌≡◌, refl, ap, ◌∙◌}
use mathlib.Core.Bool.{false, not, ◌||◌}
use mathlib.Core.List.{List, [], ◌∷◌, ◌++◌}
use Rattle.std.specs.Prelude.{Option, Some, None}
use Prim.Native.Nat.{ℕ, suc, ◌-◌, ◌≤◌, ◌<◌}
use native.Mathlib.Omega.{arith}
use lib.Dec.{ltb}
use lib.ListN.{length, get_or, replicate, length-replicate, get_or-append}
use borrow.Author.Tests.{ltb-false}
use Rattle.laws.specs.Below.{mark, or_else, given, first_found}
use Rattle.laws.proofs.Checking.{or_none, or_else_nothing}
use Rattle.laws.proofs.Lists.{length_over}
use Rattle.paper.specs.Timetable.{Tables}
use Rattle.paper.specs.Rules.{Refusal, refusal, refused_by, fault_of}
use Rattle.paper.specs.Reading.{read_of}
use Rattle.paper.specs.Work.{work_of}
use Rattle.paper.specs.Tie.{entry_of, entries_below, entries_of}
use Rattle.paper.specs.Reply.{Asking, Kept, Marked, Labelled, Answered, zero_entry, answered, refused, legs_table, short_table, lengths_of, question_broken, read_into, ask_unless, ask_of, answer_as, legs_after, reply_of}
use Rattle.paper.specs.declared.Question.{Question}
use Rattle.paper.specs.declared.Entry.{Entry}
use Rattle.paper.specs.declared.Answer.{Answer}
use Rattle.paper.proofs.Lowest.{given_nothing}
use Rattle.paper.proofs.Entries.{entries_few}
use Rattle.paper.proofs.Listing.{listed_entry}
use Rattle.paper.proofs.Answers.{length_legs}

-- at most nine entries, each of at most eight rides
pub record Few (a : Answer) : Type 0 where
  pub nine : a.count ≤ 9
  pub eight : (i : ℕ) → i < a.count → (get_or a.entries i zero_entry).rides ≤ 8

kept_answered : {x : Refusal} {C : Type 0} → Kept x ≡ Answered → C
kept_answered e = let z : ◌≡◌ {A = ℕ} 0 1 = cc in absurd (omega arith)

-- 12 refuses nothing: the ride limit is not too large
pub limit_of_lem : (T : Tables) (q : Question) → question_broken T q ≡ false → q.limit ≤ 8
unfolding question_broken
limit_of_lem T q e =
    ltb-false 8 q.limit
    (or_none (not (ltb q.start T.stops) || not (ltb q.target T.stops) || not (ltb q.time 172800)) (ltb 8 q.limit) e).1

unrefused : (T : Tables) (q : Question) (x : Option Refusal) → ask_unless x T q ≡ Answered → x ≡ None
unrefused T q None e = refl
unrefused T q (Some x) e = kept_answered e

-- what is answered was refused by nothing
answered_limit : (T : Tables) (q : Question) (labels legs : ℕ) → ask_of T labels legs q ≡ Answered → q.limit ≤ 8
unfolding ask_of
answered_limit T q labels legs e =
    let a = or_else_nothing (short_table (lengths_of T ++ (labels ∷ legs ∷ []))) (or_else (fault_of T) (given (question_broken T q) (Some (refusal 12 0)))) (unrefused T q _ e) in
    let b = or_else_nothing (fault_of T) (given (question_broken T q) (Some (refusal 12 0))) a.1 in
    limit_of_lem T q (given_nothing (question_broken T q) (refusal 12 0) b.1)

few_refused : (x : Refusal) → Few (refused x)
few_refused x = record { nine = omega arith; eight = λ i l. absurd (omega arith) }

module _ (T : Tables) (q : Question) where
  few_answered : q.limit ≤ 8 → Few (answered (work_of T q) (entries_of T q))
  unfolding entries_of
  few_answered h =
      let es : List Entry = entries_below T q (suc q.limit) in
      record {
        nine = omega (arith, entries_few T q (suc q.limit));
        eight = λ i l.
            let f = listed_entry T q (suc q.limit) i l in
            let e : get_or (es ++ replicate (9 - length es) zero_entry) i zero_entry ≡ entry_of T q f.k =
            get_or-append es (replicate (9 - length es) zero_entry) zero_entry i l ∙ f.is
            in
            let r = ap (λ (x : Entry). x.rides) e in
            omega (arith, r, f.k<);
      }

  few_as : (a : Asking) → (a ≡ Answered → q.limit ≤ 8) → Few (answer_as T q a)
  unfolding answer_as
  few_as (Kept x) h = few_refused x
  few_as (Marked x) h = few_refused x
  few_as (Labelled x) h = few_refused x
  few_as Answered h = few_answered (h refl)

  legs_long : (a : Asking) (legs : List ℕ) → 320 ≤ length legs → length (legs_after T q a legs) ≡ length legs
  unfolding legs_after
  legs_long (Kept x) legs h = refl
  legs_long (Marked x) legs h = length_over (replicate 320 mark) legs (rw length-replicate h)
  legs_long (Labelled x) legs h = length_over (replicate 320 mark) legs (rw length-replicate h)
  legs_long Answered legs h = length_over (legs_table T q) legs (rw (length_legs T q) h)

  pub reply_few : (labels legs : List ℕ) → Few (reply_of T labels legs q).answer
  unfolding reply_of
  reply_few labels legs =
      few_as (ask_of T (length labels) (length legs) q) (answered_limit T q (length labels) (length legs))

  pub reply_legs : (labels legs : List ℕ) → 320 ≤ length legs → length (reply_of T labels legs q).legs ≡ length legs
  unfolding reply_of
  reply_legs labels legs h = legs_long (ask_of T (length labels) (length legs) q) legs h

-- tables of just their full size are long enough: 6 refuses nothing
pub full_tables : short_table (256 ∷ 2048 ∷ 2048 ∷ 2048 ∷ 1536 ∷ []) ≡ None
unfolding short_table first_found or_else given refused_by
full_tables = refl

pub read_full : (f : List ℕ) → read_into (256 ∷ 2048 ∷ 2048 ∷ 2048 ∷ 1536 ∷ []) f ≡ read_of f
unfolding read_into
read_full f = rw full_tables
