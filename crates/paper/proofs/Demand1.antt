-- Demand 1: a refusal by anything but 13 or 14 changes nothing, and nothing beyond a full size is written.
use mathlib.Core.Path.{◌≡◌, refl, sym, ◌∙◌}
use mathlib.Core.Logic.{◌≢◌}
use mathlib.Core.Bool.{Bool, true, false, cond}
use mathlib.Core.List.{List, [], ◌∷◌, ◌++◌}
use Rattle.std.specs.Prelude.{Option, Some, None, Err}
use Prim.Native.Nat.{ℕ, ◌≤◌}
use native.Mathlib.Nat.{le_of_eq}
use native.Mathlib.Omega.{arith}
use lib.Dec.{eqb, ltb}
use lib.ListN.{length, drop, replicate, length-replicate}
use Rattle.laws.specs.Below.{mark, or_else, given}
use Rattle.laws.proofs.Lists.{drop-over}
use Rattle.paper.specs.Timetable.{Tables}
use Rattle.paper.specs.Rules.{Refusal, refusal, fault_of}
use Rattle.paper.specs.Work.{work_of, passing_round}
use Rattle.paper.specs.Tie.{entries_of}
use Rattle.paper.specs.Reply.{Asking, Kept, Marked, Labelled, Answered, labels_table, legs_table, ask_unless, ask_of, searched, short_table, lengths_of, question_broken, answer_as, labels_after, legs_after, reply_of}
use Rattle.paper.specs.Demands.{Demand1}
use Rattle.paper.specs.declared.Question.{Question}
use Rattle.paper.proofs.Refusals.{refused_number}
use Rattle.paper.proofs.Answers.{length_labels, length_legs}

-- a refusal that leaves the tables all mark is 13, one that leaves the labels right is 14
pub Right : Asking → Type 0
Right (Kept x) = Unit {0}
Right (Marked x) = x.number ≡ 13
Right (Labelled x) = x.number ≡ 14
Right Answered = Unit {0}

searched_right : (T : Tables) (q : Question) → Right (searched T q)
unfolding Right searched
searched_right T q = go (ltb q.budget (work_of T q)) (eqb (length (entries_of T q)) 0)
  where
    go : (a b : Bool) → Right (cond a (Marked (refusal 13 (passing_round T q))) (cond b (Labelled (refusal 14 (work_of T q))) Answered))
    go true b = refl
    go false true = refl
    go false false = tt

unless_right : (T : Tables) (q : Question) (x : Option Refusal) → Right (ask_unless x T q)
unless_right T q None = searched_right T q
unless_right T q (Some x) = unfold Right in tt

module _ (T : Tables) (q : Question) (labels legs : List ℕ) where
  kept_by : (a : Asking) → Right a → (n p : ℕ) → (answer_as T q a).verdict ≡ Err (refusal n p) → n ≢ 13 → n ≢ 14 →
      (labels_after T q a labels ≡ labels) × (legs_after T q a legs ≡ legs)
  unfolding Right answer_as labels_after legs_after
  kept_by (Kept x) h n p e a b = (refl, refl)
  kept_by (Marked x) h n p e a b = absurd (a (sym (refused_number e) ∙ h))
  kept_by (Labelled x) h n p e a b = absurd (b (sym (refused_number e) ∙ h))
  kept_by Answered h n p e a b = let z : ◌≡◌ {A = ℕ} 0 1 = cc in absurd (omega arith)

  labels_kept : (a : Asking) → 2304 ≤ length labels → drop 2304 (labels_after T q a labels) ≡ drop 2304 labels
  unfolding labels_after
  labels_kept (Kept x) l = refl
  labels_kept (Marked x) l = drop-over (replicate 2304 mark) labels 2304 (le_of_eq (length-replicate 2304 mark))
  labels_kept (Labelled x) l = drop-over (labels_table T q) labels 2304 (le_of_eq (length_labels T q))
  labels_kept Answered l = drop-over (labels_table T q) labels 2304 (le_of_eq (length_labels T q))

  legs_kept : (a : Asking) → 320 ≤ length legs → drop 320 (legs_after T q a legs) ≡ drop 320 legs
  unfolding legs_after
  legs_kept (Kept x) l = refl
  legs_kept (Marked x) l = drop-over (replicate 320 mark) legs 320 (le_of_eq (length-replicate 320 mark))
  legs_kept (Labelled x) l = drop-over (replicate 320 mark) legs 320 (le_of_eq (length-replicate 320 mark))
  legs_kept Answered l = drop-over (legs_table T q) legs 320 (le_of_eq (length_legs T q))

  asked_right : (n m : ℕ) → Right (ask_of T n m q)
  unfolding ask_of
  asked_right n m =
      unless_right T q (or_else (short_table (lengths_of T ++ (n ∷ m ∷ []))) (or_else (fault_of T) (given (question_broken T q) (Some (refusal 12 0)))))

  pub demand1 : Demand1 labels legs (reply_of T labels legs q)
  unfolding reply_of
  demand1 =
      let a : Asking = ask_of T (length labels) (length legs) q in
      record { kept = kept_by a (asked_right (length labels) (length legs)); labels_beyond = labels_kept a; legs_beyond = legs_kept a }
