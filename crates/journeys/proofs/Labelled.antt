-- What the labels table holds is what the rows are; so the legs read from it are those of document 01, and they are there.
use mathlib.Core.Path.{◌≡◌, refl, sym, ap, ap₂, ◌∙◌, subst}
use mathlib.Core.Bool.{false, not, ◌||◌}
use mathlib.Core.List.{List, [], ◌∷◌, ◌++◌}
use Prim.Native.Nat.{ℕ, zero, suc, ◌+◌, ◌*◌, ◌≤◌, ◌<◌}
use native.Mathlib.Omega.{arith}
use borrow.Author.Tests.{ltb-true, ltb-false, not-false}
use lib.Dec.{ltb}
use lib.ListN.{length, get_or, length-append}
use lib.Seq.{ext_get_or}
use Rattle.laws.proofs.Lists.{get_d_over, length_part, get_d_part}
use Rattle.laws.proofs.Checking.{or_none}
use Rattle.paper.specs.Timetable.{Tables, n_of, route_of}
use Rattle.paper.specs.Journey.{Step, ride, ride_walk}
use Rattle.paper.specs.Rows.{label, row_in, next_row, row_of}
use Rattle.paper.specs.Tie.{first_step, board_stop, leg_of, legs_of}
use Rattle.paper.specs.Reply.{question_broken, labels_table, leg_numbers}
use Rattle.paper.specs.declared.Leg.{Leg}
use Rattle.paper.specs.declared.Question.{Question}
use Rattle.paper.proofs.Usable.{Usable, usable_of, Asked}
use Rattle.paper.proofs.Answers.{length_labels, labels_at, length_numbers}
use Rattle.paper.proofs.Steps.{label_read, label_next, label_rides}
use Rattle.paper.proofs.Earliest.{length_row, row_in_lem, row_mark}
use Rattle.paper.proofs.Legs.{Gained, legs_step, legs_length, read_back}
use Rattle.journeys.specs.ReadBack.{step_in, RidesAfter, legs_in, Leads, here, back, Readable}
use Rattle.journeys.proofs.Tracing.{legs_in_step}

-- ---- a good question

pub record Good (T : Tables) (q : Question) : Type 0 where
  pub asked : Asked T q
  pub limit≤ : q.limit ≤ 8

pub good_of : (T : Tables) (q : Question) → question_broken T q ≡ false → Good T q
unfolding question_broken
good_of T q e =
    let a = or_none (not (ltb q.start T.stops) || not (ltb q.target T.stops) || not (ltb q.time 172800)) (ltb 8 q.limit) e in
    let b = or_none (not (ltb q.start T.stops) || not (ltb q.target T.stops)) (not (ltb q.time 172800)) a.0 in
    let c = or_none (not (ltb q.start T.stops)) (not (ltb q.target T.stops)) b.0 in
    record {
      asked = record {
        start< = ltb-true _ _ (not-false _ c.0);
        target< = ltb-true _ _ (not-false _ c.1);
        time< = ltb-true _ _ (not-false _ b.1);
      };
      limit≤ = ltb-false _ _ a.1;
    }

-- ---- the rows in the labels

module _ (T : Tables) (q : Question) (labels : List ℕ) {room : ℕ} (ok : Readable T q labels room) where
  good : Good T q
  good = good_of T q ok.good

  us : Usable T
  us = usable_of T ok.fit.sound

  pub labels_room : 2304 ≤ length labels
  labels_room = let e = ap length ok.labels_are ∙ length-append (labels_table T q) _ in omega (arith, length_labels T q)

  pub label_at : (k s : ℕ) → k ≤ q.limit → s < T.stops → get_or labels (k * 256 + s) 0 ≡ label (row_of T q k) s
  label_at k s lk ls =
      let few = good.limit≤ in
      let h : s < 256 = omega (arith, ok.fit.sound.stops≤) in
      ap (λ (xs : List ℕ). get_or xs (k * 256 + s) 0) ok.labels_are
      ∙ get_d_over (labels_table T q) ok.rest (k * 256 + s) 0 (omega (arith, length_labels T q))
      ∙ labels_at T q k s lk (omega arith) h

  row_at : (k : ℕ) → k ≤ q.limit → row_in labels k T.stops ≡ row_of T q k
  row_at k lk =
      let few = good.limit≤ in
      let size : length (row_in labels k T.stops) ≡ T.stops =
      length_part labels (k * 256) (k * 256 + T.stops) (omega (arith, labels_room, ok.fit.sound.stops≤)) ∙ omega arith in
      ext_get_or 0 (row_in labels k T.stops) (row_of T q k) (size ∙ sym (length_row T q k))
      (λ s l. let h : s < T.stops = omega arith in
      get_d_part labels (k * 256) (k * 256 + T.stops) s 0 (omega arith)
      ∙ label_at k s lk h
      ∙ label_read (row_of T q k) s (omega (arith, length_row T q k)))

  step_same : (k p : ℕ) → suc k ≤ q.limit → p < T.stops → step_in T labels k p ≡ first_step T (row_of T q k) p (label (row_of T q (suc k)) p)
  step_same k p lk lp =
      let z : k * 256 + 256 + p ≡ suc k * 256 + p = omega arith in
      ap₂ (λ (row : List ℕ) (v : ℕ). first_step T row p v) (row_at k (omega arith)) (ap (λ (n : ℕ). get_or labels n 0) z ∙ label_at (suc k) p lk lp)

  -- row k + 1 counts each ride that row k permits
  pub rides_after : (k : ℕ) → suc k ≤ q.limit → RidesAfter T labels k
  unfolding row_of
  rides_after k lk s ls =
      let z : k * 256 + 256 + s ≡ suc k * 256 + s = omega arith in
      let e : get_or labels (k * 256 + 256 + s) 0 ≡ label (next_row T (row_of T q k)) s = ap (λ (n : ℕ). get_or labels n 0) z ∙ label_at (suc k) s lk ls in
      let a = label_next T (row_of T q k) s ls in
      let b = label_rides T (row_of T q k) s ls in
      rw (row_at k (omega arith)) (omega arith)

  -- ---- the legs

  abbrev OnRoute : Leg → Type 0
  OnRoute g = (g.route < T.routes) × (g.board < n_of T g.route)

  on_route : {b a p u : ℕ} (x : Step T b a p u) → OnRoute (leg_of x)
  unfolding leg_of route_of
  on_route (ride x) = (x.route<, let a = x.later in let b = x.leave< in omega arith)
  on_route (ride_walk x w) = (x.route<, let a = x.later in let b = x.leave< in omega arith)

  gained_stop : (k p : ℕ) → Gained T q (suc k) p → p < T.stops
  gained_stop k p h = let m = row_mark T q us good.asked k p in row_in_lem T q (suc k) p (omega arith)

  pub leads_of : (k p : ℕ) → k ≤ q.limit → Gained T q k p → Leads T labels k p
  leads_of zero p l h = here
  leads_of (suc k) p l h =
      let x = read_back T q us good.asked k p h in
      let on : OnRoute x.0 = subst OnRoute x.2.leg≡ (on_route x.2.the_step) in
      let lp = gained_stop k p h in
      back x.0 lp (step_same k p l lp ∙ x.1) on.0 on.1 (leads_of k (board_stop T x.0) (omega arith) x.3)

  pub legs_same : (k p : ℕ) → k ≤ q.limit → Gained T q k p → legs_in T labels k p ≡ legs_of T q k p
  legs_same zero p l h = unfold legs_in legs_of in refl
  legs_same (suc k) p l h =
      let x = read_back T q us good.asked k p h in
      legs_in_step T labels k p x.0 (step_same k p l (gained_stop k p h) ∙ x.1)
      ∙ ap (λ (gs : List Leg). gs ++ (x.0 ∷ [])) (legs_same k (board_stop T x.0) (omega arith) x.3)
      ∙ sym (legs_step T q k p x.0 x.1)

  pub legs_fit : (k p : ℕ) → k ≤ q.limit → Gained T q k p → length (leg_numbers (legs_of T q k p)) ≤ 40
  legs_fit k p l h =
      let a = length_numbers (legs_of T q k p) in
      let b = legs_length T q us good.asked k p h in
      let c = good.limit≤ in
      omega arith
