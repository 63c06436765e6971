-- Demands 2 and 3 hold of `reply_of`, for every question that is not refused by 6, 5, 7 to 12.
use Rattle.std.specs.Prelude.{Ok, Err}
use mathlib.Core.Path.{◌≡◌, sym, ap, ◌∙◌}
use mathlib.Core.Logic.{◌⊎◌, inl, inr}
use mathlib.Core.List.{List}
use Prim.Native.Nat.{ℕ, ◌≤◌, ◌<◌}
use native.Mathlib.Decide.{ℕ_discrete}
use native.Mathlib.Omega.{arith}
use lib.ListN.{length}
use borrow.Author.Tests.{lt-ltb, le-ltb, eq-eqb, ne_eqb}
use Rattle.laws.proofs.Tests.{by_lt}
use Rattle.paper.specs.Rules.{refusal}
use Rattle.paper.specs.Timetable.{Tables}
use Rattle.paper.specs.Work.{work_of, passing_round}
use Rattle.paper.specs.Tie.{entries_of}
use Rattle.paper.specs.Reply.{Reply, Asking, Marked, Labelled, Answered, searched, answer_as, labels_after, legs_after, reply_of}
use Rattle.paper.specs.Demands.{Ready, Demand2, with_budget, Demand3}
use Rattle.paper.specs.declared.Question.{Question}
use Rattle.paper.proofs.Refusals.{refused_number}
use Rattle.paper.proofs.Checks.{none_of}
use Rattle.paper.proofs.Usable.{Asked, usable_of}
use Rattle.paper.proofs.WorkLimit.{work_limit}
use Rattle.paper.proofs.Budget.{work_same, entries_same, labels_same, legs_table_same}
use Rattle.paper.proofs.Answers.{ready_asked}
use Rattle.paper.proofs.Best.{no_way_reply, way_reply}

-- ---- the replies of a question that is not refused by 6, 5, 7 to 12

abbrev replied : Tables → List ℕ → List ℕ → Question → Asking → Reply
replied T labels legs q a = record { answer = answer_as T q a; labels = labels_after T q a labels; legs = legs_after T q a legs }

module _ (T : Tables) (labels legs : List ℕ) (q : Question) (r : Ready T labels legs q) where
  asked_of_lem : Asked T q
  asked_of_lem = record { start< = r.start<; target< = r.target<; time< = r.time< }

  over_budget : q.budget < work_of T q → searched T q ≡ Marked (refusal 13 (passing_round T q))
  unfolding searched
  over_budget h = rw (lt-ltb q.budget (work_of T q) h)

  no_entries : work_of T q ≤ q.budget → length (entries_of T q) ≡ 0 → searched T q ≡ Labelled (refusal 14 (work_of T q))
  unfolding searched
  no_entries h e = rw (le-ltb q.budget (work_of T q) h, eq-eqb (length (entries_of T q)) 0 e)

  some_entries : work_of T q ≤ q.budget → (length (entries_of T q) ≡ 0 → ⊥) → searched T q ≡ Answered
  unfolding searched
  some_entries h e = rw (le-ltb q.budget (work_of T q) h, ne_eqb (length (entries_of T q)) 0 e)

  reply_is : {a : Asking} → searched T q ≡ a → reply_of T labels legs q ≡ replied T labels legs q a
  unfolding reply_of
  reply_is e = rw (ready_asked T labels legs q r (none_of T r.sound) ∙ e)

  pub demand2 : work_of T q ≤ q.budget → Demand2 T q (reply_of T labels legs q)
  demand2 h = go (ℕ_discrete (length (entries_of T q)) 0)
    where
      go : Dec (length (entries_of T q) ≡ 0) → Demand2 T q (reply_of T labels legs q)
      go (yes e) = rw (reply_is (no_entries h e)) (unfold answer_as labels_after legs_after in
          (no_way_reply T q (usable_of T r.sound) asked_of_lem labels legs r.sound.stops≤ r.limit≤ r.labels≥ e))
      go (no e) = rw (reply_is (some_entries h e)) (unfold answer_as labels_after legs_after in
          (way_reply T q (usable_of T r.sound) asked_of_lem labels legs r.sound.stops≤ r.limit≤ r.legs≥ e))

  -- ---- demand 3

  -- a reply, by what the search says: 13, 14 or an answer
  verdict_marked : q.budget < work_of T q → (reply_of T labels legs q).answer.verdict ≡ Err (refusal 13 (passing_round T q))
  unfolding answer_as
  verdict_marked h = ap (λ (x : Reply). x.answer.verdict) (reply_is (over_budget h))

  verdict_within : work_of T q ≤ q.budget →
      ((reply_of T labels legs q).answer.verdict ≡ Err (refusal 14 (work_of T q))) ⊎ ((reply_of T labels legs q).answer.verdict ≡ Ok (work_of T q))
  unfolding answer_as
  verdict_within h = go (ℕ_discrete (length (entries_of T q)) 0)
    where
      go : Dec (length (entries_of T q) ≡ 0) →
          ((reply_of T labels legs q).answer.verdict ≡ Err (refusal 14 (work_of T q))) ⊎ ((reply_of T labels legs q).answer.verdict ≡ Ok (work_of T q))
      go (yes e) = inl (ap (λ (x : Reply). x.answer.verdict) (reply_is (no_entries h e)))
      go (no e) = inr (ap (λ (x : Reply). x.answer.verdict) (reply_is (some_entries h e)))

  work_right : (w : ℕ) → (reply_of T labels legs q).answer.verdict ≡ Ok w → w ≡ work_of T q
  work_right w e =
      by_lt q.budget (work_of T q)
      (λ h. let m = verdict_marked h in let z : ◌≡◌ {A = ℕ} 0 1 = cc in absurd (omega arith))
      (λ h. go (verdict_within h))
    where
      go : ((reply_of T labels legs q).answer.verdict ≡ Err (refusal 14 (work_of T q))) ⊎ ((reply_of T labels legs q).answer.verdict ≡ Ok (work_of T q)) → w ≡ work_of T q
      go (inl x) = let z : ◌≡◌ {A = ℕ} 0 1 = cc in absurd (omega arith)
      go (inr x) = cc

  budget_passed : (reply_of T labels legs q).answer.verdict ≡ Err (refusal 13 (passing_round T q)) → q.budget < work_of T q
  budget_passed e = by_lt q.budget (work_of T q) (λ h. h) (λ h. go (verdict_within h))
    where
      go : ((reply_of T labels legs q).answer.verdict ≡ Err (refusal 14 (work_of T q))) ⊎ ((reply_of T labels legs q).answer.verdict ≡ Ok (work_of T q)) → q.budget < work_of T q
      go (inl x) = absurd (let z : ◌≡◌ {A = ℕ} 13 14 = refused_number (sym e ∙ x) in omega arith)
      go (inr x) = let z : ◌≡◌ {A = ℕ} 0 1 = cc in absurd (omega arith)

-- a larger budget changes no answer given
module _ (T : Tables) (labels legs : List ℕ) (q : Question) (r : Ready T labels legs q) (b : ℕ) where
  ready_with : Ready T labels legs (with_budget q b)
  ready_with =
      record {
        t1≥ = r.t1≥;
        t2≥ = r.t2≥;
        t3≥ = r.t3≥;
        t4≥ = r.t4≥;
        t5≥ = r.t5≥;
        labels≥ = r.labels≥;
        legs≥ = r.legs≥;
        sound = r.sound;
        start< = r.start<;
        target< = r.target<;
        time< = r.time<;
        limit≤ = r.limit≤;
      }

  no_way_same : replied T labels legs (with_budget q b) (Labelled (refusal 14 (work_of T (with_budget q b)))) ≡ replied T labels legs q (Labelled (refusal 14 (work_of T q)))
  unfolding answer_as labels_after legs_after
  no_way_same = rw (work_same T q b, labels_same T q b)

  answered_same : replied T labels legs (with_budget q b) Answered ≡ replied T labels legs q Answered
  unfolding answer_as labels_after legs_after
  answered_same = rw (work_same T q b, entries_same T q b, labels_same T q b, legs_table_same T q b)

  larger : q.budget ≤ b → work_of T q ≤ q.budget → reply_of T labels legs (with_budget q b) ≡ reply_of T labels legs q
  larger l h = go (ℕ_discrete (length (entries_of T q)) 0)
    where
      within : work_of T (with_budget q b) ≤ b
      within = let w = work_same T q b in omega arith

      go : Dec (length (entries_of T q) ≡ 0) → reply_of T labels legs (with_budget q b) ≡ reply_of T labels legs q
      go (yes e) =
          reply_is T labels legs (with_budget q b) ready_with (no_entries T labels legs (with_budget q b) ready_with within (ap length (entries_same T q b) ∙ e))
          ∙ no_way_same
          ∙ sym (reply_is T labels legs q r (no_entries T labels legs q r h e))
      go (no e) =
          reply_is T labels legs (with_budget q b) ready_with (some_entries T labels legs (with_budget q b) ready_with within (λ z. e (sym (ap length (entries_same T q b)) ∙ z)))
          ∙ answered_same
          ∙ sym (reply_is T labels legs q r (some_entries T labels legs q r h e))

pub demand3 : (T : Tables) (labels legs : List ℕ) (q : Question) → Ready T labels legs q → Demand3 T labels legs q
demand3 T labels legs q r =
    record {
      work = work_right T labels legs q r;
      limit = work_limit T (usable_of T r.sound) q r.limit≤;
      budget = (budget_passed T labels legs q r, verdict_marked T labels legs q r);
      larger = larger T labels legs q r;
    }
