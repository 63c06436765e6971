-- Every answer that asking gives has 32-bit numbers, so that what is printed for it determines it.
use mathlib.Core.Path.{◌≡◌, refl}
use mathlib.Core.Bool.{Bool}
use mathlib.Core.List.{List, [], ◌∷◌, ◌++◌, append-nil}
use Rattle.std.specs.Prelude.{Option, Some, None}
use Prim.Native.Nat.{ℕ, zero, suc, ◌+◌, ◌*◌, ◌≤◌, ◌<◌}
use native.Mathlib.Omega.{arith}
use lib.Dec.{eqb, ltb}
use lib.ListN.{length}
use borrow.Author.Tests.{ltb-true}
use Rattle.laws.specs.Below.{mark, min_below, or_else, given, first_found}
use Rattle.laws.proofs.Tests.{by_test, cell_in}
use Rattle.laws.proofs.Below.{min_below-mark, first_below_le, sum_below_at}
use Rattle.laws.proofs.Found.{some_same, given_some, first_found_hit}
use Rattle.laws.proofs.Checking.{or_else_nothing}
use Rattle.paper.specs.Timetable.{Tables, n_of, m_of, events_to}
use Rattle.paper.specs.Rules.{Refusal, refusal, refused_by, event_of, fault_of}
use Rattle.paper.specs.Work.{rounds_run, work_to, work_of, passing_round, limit_of}
use Rattle.paper.specs.Rows.{label, row_of}
use Rattle.paper.specs.Tie.{is_entry, entries_below, entries_of}
use Rattle.paper.specs.Reply.{short_table, lengths_of, question_broken, searched, ask_unless, ask_of, answer_as, reply_of}
use Rattle.paper.specs.Lines.{answer_lines}
use Rattle.paper.specs.declared.Question.{Question}
use Rattle.paper.specs.declared.Entry.{Entry}
use Rattle.paper.proofs.Lowest.{given_nothing}
use Rattle.paper.proofs.Places.{heads_right}
use Rattle.paper.proofs.Checks.{CountsUnbroken, routes_right, counts_events, sound_of}
use Rattle.paper.proofs.LowestPlace.{FirstRefusal, by_heads, by_route, by_stop, by_time, by_overtaken, by_walk, by_open, lowest_place}
use Rattle.paper.proofs.RouteEnds.{positions_events, positions_end}
use Rattle.paper.proofs.Usable.{usable_of}
use Rattle.paper.proofs.WorkLimit.{work_limit}
use Rattle.paper.proofs.Entries.{entries_few}
use Rattle.paper.proofs.Printed.{Entries32, none as no_entries, more, Told, tells, refuses, printed_same}
use Rattle.paper.proofs.Printing.{limit_of_lem}

-- a refusal of 32-bit numbers
record Small (x : Refusal) : Type 0 where
  number< : x.number < 4294967296
  place< : x.place < 4294967296

abbrev AllSmall : Option Refusal → Type 0
AllSmall o = (x : Refusal) → o ≡ Some x → Small x

small_refusal : (n p : ℕ) → n < 4294967296 → p < 4294967296 → Small (refusal n p)
small_refusal n p a b = record { number< = a; place< = b }

-- ---- the rules

module _ (T : Tables) where
  event_small : CountsUnbroken T → (r j i : ℕ) → r < T.routes → j < m_of T r → i < n_of T r → event_of T r j i < 2048
  unfolding event_of events_to
  event_small h r j i l m n =
      let f = (routes_right T h r l).first_event_is in
      let e = counts_events T h in
      omega (arith, f, e, sum_below_at T.routes r (λ k. n_of T k * m_of T k) l, cell_in (n_of T r) (m_of T r) j i m n)

  first_small : {x : Refusal} → FirstRefusal T x → Small x
  first_small (by_heads b) = small_refusal 5 64 (omega arith) (omega arith)
  first_small (by_route {p} b l) = small_refusal 5 p (omega arith) (omega (arith, l.below, (heads_right T b).routes≤))
  first_small (by_stop {p} h l) =
      small_refusal 7 p (omega arith) (omega (arith, l.below, positions_events T (λ r m. (routes_right T h r m).counts.m≥), counts_events T h))
  first_small (by_time {p} h l) =
      small_refusal 8 p (omega arith) (omega (arith, l.is, event_small h.counts l.route l.trip l.position l.route< l.trip< l.position<))
  first_small (by_overtaken {p} h l) =
      small_refusal 9 p (omega arith) (omega (arith, l.is, event_small h.before.counts l.route (l.trip + 1) l.position l.route< (omega (arith, l.trip<)) l.position<))
  first_small (by_walk {p} h l) = small_refusal 10 p (omega arith) (omega (arith, l.below, (heads_right T h.before.before.counts.heads).walks≤))
  first_small (by_open {p} h l) = small_refusal 11 p (omega arith) (omega (arith, l.below, (heads_right T h.before.before.before.counts.heads).walks≤))

  fault_small : AllSmall (fault_of T)
  fault_small x e = first_small (lowest_place T x e)

table_small : (k : ℕ) (p : ℕ → Bool) → k ≤ 7 → AllSmall (refused_by 6 (first_found k λ i. given (p i) (Some (i + 1))))
unfolding refused_by
table_small k p h x e = go (first_found k λ i. given (p i) (Some (i + 1))) refl e
  where
    go : (o : Option ℕ) → first_found k (λ i. given (p i) (Some (i + 1))) ≡ o → refused_by 6 o ≡ Some x → Small x
    go None f e = absurd (let z : ◌≡◌ {A = ℕ} 0 1 = cc in omega arith)
    go (Some n) f e =
        let y : refusal 6 n ≡ x = some_same e in
        let a = first_found_hit k (λ i. given (p i) (Some (i + 1))) n f in
        let m : a.at + 1 ≡ n = some_same (given_some (p a.at) (Some (a.at + 1)) a.is).1 in
        rw (← y) (small_refusal 6 n (omega arith) (omega (arith, m, a.below)))

or_small : (o p : Option Refusal) → AllSmall o → AllSmall p → AllSmall (or_else o p)
unfolding or_else
or_small None p a b = b
or_small (Some y) p a b = a

question_small : (b : Bool) → AllSmall (given b (Some (refusal 12 0)))
question_small b x e = rw (← some_same (given_some b (Some (refusal 12 0)) e).1) (small_refusal 12 0 (omega arith) (omega arith))

-- ---- an answer

module _ (T : Tables) (q : Question) where
  entries_told : (n : ℕ) → n ≤ 9 → Entries32 (entries_below T q n)
  unfolding entries_below is_entry mark
  entries_told zero h = no_entries
  entries_told (suc k) h =
      by_test (is_entry T q k)
      (λ t. rw t (also (entries_below T q k) (entries_told k (omega arith)) (more (omega arith) (omega (arith, ltb-true (label (row_of T q k) q.target) (min_below k before) t, min_below-mark k before)) no_entries)))
      (λ t. rw (t, append-nil) (entries_told k (omega arith)))
    where
      before : ℕ → ℕ
      before j = label (row_of T q j) q.target

      also : (es : List Entry) {fs : List Entry} → Entries32 es → Entries32 fs → Entries32 (es ++ fs)
      also [] no_entries b = b
      also (e ∷ es) (more r a g) b = more r a (also es g b)

  searched_told : fault_of T ≡ None → q.limit ≤ 8 → Told (answer_as T q (searched T q))
  unfolding searched answer_as passing_round rounds_run entries_of limit_of
  searched_told f h =
      let s = sound_of T f in
      let w : work_of T q < 4294967296 = omega (arith, work_limit T (usable_of T s) q h, positions_end T s, s.trips≤, s.walks≤) in
      by_test (ltb q.budget (work_of T q))
      (λ t. rw t (refuses (refusal 13 (passing_round T q)) (omega arith) (omega (arith, first_below_le (rounds_run T q) (λ k. ltb q.budget (work_to T q (suc k)))))))
      (λ t. by_test (eqb (length (entries_of T q)) 0)
      (λ u. rw (t, u) (refuses (refusal 14 (work_of T q)) (omega arith) w))
      (λ u. rw (t, u) (tells (work_of T q) (entries_of T q) w (omega (arith, entries_few T q (suc q.limit))) (entries_told (suc q.limit) (omega arith)))))

  unless_told : (o : Option Refusal) → AllSmall o → (o ≡ None → Told (answer_as T q (searched T q))) → Told (answer_as T q (ask_unless o T q))
  unfolding answer_as
  unless_told None a h = h refl
  unless_told (Some x) a h = refuses x (a x refl).number< (a x refl).place<

  pub reply_told : (labels legs : List ℕ) → Told (reply_of T labels legs q).answer
  unfolding reply_of ask_of short_table
  reply_told labels legs =
      let bad : Option Refusal = given (question_broken T q) (Some (refusal 12 0)) in
      unless_told (or_else (short_table (lengths_of T ++ (length labels ∷ length legs ∷ []))) (or_else (fault_of T) bad))
      (or_small _ _ (table_small 7 _ (omega arith)) (or_small (fault_of T) bad (fault_small T) (question_small (question_broken T q))))
      (λ e.
      let a = or_else_nothing (short_table (lengths_of T ++ (length labels ∷ length legs ∷ []))) (or_else (fault_of T) bad) e in
      let b = or_else_nothing (fault_of T) bad a.1 in
      searched_told b.0 (limit_of_lem T q (given_nothing (question_broken T q) (refusal 12 0) b.1)))

-- two questions for which the same is printed have the same answer
pub printed-once : (T U : Tables) (q r : Question) (labels legs labels' legs' g h : List ℕ) →
    answer_lines (reply_of T labels legs q).answer g ≡ answer_lines (reply_of U labels' legs' r).answer h →
    (reply_of T labels legs q).answer ≡ (reply_of U labels' legs' r).answer
printed-once T U q r labels legs labels' legs' g h e = printed_same g h (reply_told T q labels legs) (reply_told U r labels' legs') e
