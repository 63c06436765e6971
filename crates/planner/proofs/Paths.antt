-- The ways through `ask`, each with the reply that it ends in.
use Rattle.std.specs.Prelude.{None, Result, Ok, Err}
use mathlib.Core.Path.{◌≡◌, refl, sym, ap, ◌∙◌}
use mathlib.Core.Bool.{Bool, true, false}
use mathlib.Core.List.{List, [], ◌∷◌, ◌++◌}
use Prim.Native.Nat.{ℕ, ◌+◌, ◌≤◌, ◌<◌}
use native.Mathlib.Omega.{arith}
use lib.Dec.{eqb, ltb}
use lib.ListN.{length, get_or, replicate}
use borrow.Author.Tests.{ltb-false, ne_eqb}
use Rattle.laws.specs.Below.{mark, or_else, given}
use Rattle.laws.specs.Lists.{over}
use Rattle.laws.proofs.Tests.{by_test}
use Rattle.laws.proofs.Found.{first_found_never}
use Rattle.paper.specs.Timetable.{Tables, full_sizes}
use Rattle.paper.specs.declared.Refusal.{Refusal}
use Rattle.paper.specs.Rules.{refusal, fault_of, Fit}
use Rattle.paper.specs.Work.{work_of, passing_round}
use Rattle.paper.specs.Tie.{entries_of}
use Rattle.paper.specs.Reply.{done, labels_table, Asking, Kept, Marked, Labelled, Answered, short_table, lengths_of, question_broken, ask_of, searched, refused, answer_as, labels_after, legs_after, reply_of}
use Rattle.paper.specs.Demands.{Ready}
use Rattle.paper.specs.declared.Question.{Question}
use Rattle.paper.specs.declared.Entry.{Entry}
use Rattle.paper.specs.declared.Answer.{Answer}
use Rattle.paper.proofs.Lowest.{given_nothing}
use Rattle.paper.proofs.Checks.{sound_of, none_of, refused_none}
use Rattle.paper.proofs.Answers.{question_good, ready_asked, no_entry_legs}
use Rattle.timetable.specs.Needed.{Full}
use Rattle.rounds.specs.Run.{rounds_of, labels_left}
use Rattle.journeys.specs.ReadBack.{Readable, ReadBack}
use Rattle.journeys.proofs.Labelled.{good_of}
use Rattle.planner.specs.Asked.{Replied}
use Rattle.timetable.proofs.Faults.{done_none, done_some}
use Rattle.paper.proofs.Refusals.{refused_same}

-- a refusal is not done
refused_done : {x : Refusal} {w : ℕ} → ◌≡◌ {A = Result ℕ Refusal} (Err x) (Ok w) → ⊥
refused_done e = let z : ◌≡◌ {A = ℕ} 0 1 = cc in omega arith

done_same : {m n : ℕ} → ◌≡◌ {A = Result ℕ Refusal} (Ok m) (Ok n) → m ≡ n
done_same e = cc

-- the lengths of all lent tables
abbrev pub seven : Tables → List ℕ → List ℕ → List ℕ
seven T labels legs = lengths_of T ++ (length labels ∷ length legs ∷ [])

module _ (T : Tables) (labels legs : List ℕ) (q : Question) where
  replied : (a : Asking) → ask_of T (length labels) (length legs) q ≡ a →
      reply_of T labels legs q ≡ record { answer = answer_as T q a; labels = labels_after T q a labels; legs = legs_after T q a legs }
  unfolding reply_of
  replied a e = rw e

  kept : (x : Refusal) → ask_of T (length labels) (length legs) q ≡ Kept x → {r : Answer} → r ≡ refused x → Replied (reply_of T labels legs q) r labels legs
  unfolding answer_as labels_after legs_after
  kept x e h = rw (replied (Kept x) e) (record { answer_is = h; labels_are = refl; legs_are = refl })

  -- 6
  pub by_short : {x : Refusal} → Err x ≡ done (tt {0}) (short_table (seven T labels legs)) → Replied (reply_of T labels legs q) (refused x) labels legs
  unfolding ask_of or_else
  by_short {x} e = kept x (rw (done_some _ (short_table (seven T labels legs)) e)) refl

  module _ (long : Ok (tt {0}) ≡ done (tt {0}) (short_table (seven T labels legs))) where
    long_enough : short_table (seven T labels legs) ≡ None
    long_enough = done_none _ (short_table (seven T labels legs)) long

    room : (i : ℕ) → i < 7 → get_or full_sizes i 0 ≤ get_or (seven T labels legs) i 0
    unfolding short_table
    room i l =
        ltb-false (get_or (seven T labels legs) i 0) (get_or full_sizes i 0)
        (given_nothing (ltb (get_or (seven T labels legs) i 0) (get_or full_sizes i 0)) (i + 1)
        (first_found_never 7 _ (refused_none 6 _ long_enough) i l))

    -- the five tables have their full sizes
    pub full : Full T
    full =
        record {
          routes = room 0 (omega arith);
          positions = room 1 (omega arith);
          arrivals = room 2 (omega arith);
          departures = room 3 (omega arith);
          walks = room 4 (omega arith);
        }

    -- 5, 7 to 11
    pub by_fault : {x : Refusal} → Err x ≡ done (tt {0}) (fault_of T) → Replied (reply_of T labels legs q) (refused x) labels legs
    unfolding ask_of or_else
    by_fault {x} e = kept x (rw (long_enough, done_some _ (fault_of T) e)) refl

    module _ (sound : Ok (tt {0}) ≡ done (tt {0}) (fault_of T)) where
      unbroken : fault_of T ≡ None
      unbroken = done_none _ (fault_of T) sound

      -- 12
      pub by_question : {b : Bool} → b ≡ question_broken T q → b ≡ true → Replied (reply_of T labels legs q) (refused (refusal 12 0)) labels legs
      unfolding ask_of or_else given
      by_question e bad = kept (refusal 12 0) (rw (long_enough, unbroken, sym e ∙ bad)) refl

      -- nothing before 13 refuses
      pub ready : {b : Bool} → b ≡ question_broken T q → b ≡ false → Ready T labels legs q
      ready e well =
          let g = good_of T q (sym e ∙ well) in
          record {
            t1≥ = room 0 (omega arith);
            t2≥ = room 1 (omega arith);
            t3≥ = room 2 (omega arith);
            t4≥ = room 3 (omega arith);
            t5≥ = room 4 (omega arith);
            labels≥ = room 5 (omega arith);
            legs≥ = room 6 (omega arith);
            sound = sound_of T unbroken;
            start< = g.asked.start<;
            target< = g.asked.target<;
            time< = g.asked.time<;
            limit≤ = g.limit≤;
          }

module _ (T : Tables) (labels legs : List ℕ) (q : Question) (r : Ready T labels legs q) where
  pub fit : Fit T
  fit =
      record {
        sound = r.sound;
        routes_room = r.t1≥;
        positions_room = r.t2≥;
        arrivals_room = r.t3≥;
        departures_room = r.t4≥;
        walks_room = r.t5≥;
      }

  pub good : question_broken T q ≡ false
  good = question_good T q r.start< r.target< r.time< r.limit≤

  searches : {a : Asking} → searched T q ≡ a →
      reply_of T labels legs q ≡ record { answer = answer_as T q a; labels = labels_after T q a labels; legs = legs_after T q a legs }
  searches e = replied T labels legs q _ (ready_asked T labels legs q r (none_of T r.sound) ∙ e)

  -- 13
  pub by_budget : {x : Refusal} {labels' legs' : List ℕ} → Err x ≡ rounds_of T q → labels' ≡ labels_left T q labels →
      legs' ≡ over (replicate 320 mark) legs → Replied (reply_of T labels legs q) (refused x) labels' legs'
  unfolding rounds_of labels_left searched answer_as labels_after legs_after
  by_budget e l g =
      by_test (ltb q.budget (work_of T q))
      (λ t. rw (searches {a = Marked (refusal 13 (passing_round T q))} (rw t))
      (record { answer_is = ap refused (refused_same (e ∙ rw t)); labels_are = l ∙ rw t; legs_are = g }))
      (λ t. absurd (refused_done {w = work_of T q} (e ∙ rw t)))

  -- within the budget: labels are right, and so are the work and what is listed
  module _ {w : ℕ} {labels' : List ℕ} (e : Ok w ≡ rounds_of T q) (l : labels' ≡ labels_left T q labels) where
    within : ltb q.budget (work_of T q) ≡ false
    unfolding rounds_of
    within = by_test (ltb q.budget (work_of T q)) (λ t. absurd (refused_done {x = refusal 13 (passing_round T q)} (sym (e ∙ rw t)))) (λ t. t)

    work_is : w ≡ work_of T q
    unfolding rounds_of
    work_is = done_same (e ∙ rw within)

    labels_right : labels' ≡ over (labels_table T q) labels
    unfolding labels_left
    labels_right = l ∙ rw within

    pub within_budget : Readable T q labels' (length legs)
    within_budget = record { fit = fit; good = good; rest = labels; labels_are = labels_right; legs_room = r.legs≥ }

    module _ {n : ℕ} {es : List Entry} {legs' : List ℕ} (b : ReadBack T q legs legs' n es) where
      -- 14
      pub by_nothing : n ≡ 0 → Replied (reply_of T labels legs q) (refused (refusal 14 w)) labels' legs'
      unfolding searched answer_as labels_after legs_after
      by_nothing z =
          let none : length (entries_of T q) ≡ 0 = sym b.count_is ∙ z in
          rw (searches {a = Labelled (refusal 14 (work_of T q))} (rw (within, none)))
          (record {
            answer_is = ap (λ (k : ℕ). refused (refusal 14 k)) work_is;
            labels_are = labels_right;
            legs_are = b.legs_are ∙ ap (λ (d : List ℕ). over d legs) (no_entry_legs T q none);
          })

      -- the answer
      pub by_entries : (n ≡ 0 → ⊥) → Replied (reply_of T labels legs q) (record { verdict = Ok w; count = n; entries = es }) labels' legs'
      unfolding searched answer_as labels_after legs_after
      by_entries some =
          let listed : eqb (length (entries_of T q)) 0 ≡ false = ne_eqb _ _ (λ z. some (b.count_is ∙ z)) in
          rw (searches {a = Answered} (rw (within, listed)))
          (record { answer_is = rw (b.count_is, work_is, b.entries_are); labels_are = labels_right; legs_are = b.legs_are })
