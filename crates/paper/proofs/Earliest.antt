-- Row k holds the earliest arrivals over all journeys of at most k rides; rows never rise, and what a round gains is read back.
use mathlib.Core.Path.{◌≡◌, refl, sym, ap, ◌∙◌, subst}
use mathlib.Core.Logic.{◌≢◌}
use mathlib.Core.List.{List}
use Prim.Native.Nat.{ℕ, zero, suc, ◌+◌, ◌≤◌, ◌<◌}
use native.Mathlib.Nat.{le_refl, le_trans, le_of_eq, le_antisymm, le_step}
use native.Mathlib.Decide.{ℕ_discrete}
use native.Mathlib.Omega.{arith}
use borrow.Author.Tests.{eqb-true, eq-eqb}
use lib.Dec.{eqb}
use lib.ListN.{length, get_or}
use lib.Seq.{ext_get_or}
use Rattle.laws.specs.Below.{mark, only}
use Rattle.laws.proofs.Tests.{by_lt}
use Rattle.laws.proofs.Below.{only_true, only_hit}
use Rattle.laws.proofs.Lists.{length-tab}
use Rattle.paper.specs.Timetable.{Tables}
use Rattle.paper.specs.Rows.{label, next_row, first_row, row_of, Earliest}
use Rattle.paper.specs.Journey.{Ride, Step, ride, ride_walk, Journey, stay, step}
use Rattle.paper.specs.declared.Question.{Question}
use Rattle.paper.proofs.Usable.{Usable, Asked}
use Rattle.paper.proofs.Steps.{label-tab, label_in, next_le, ride_from, step_le, Stepped, step_hit}

-- there is one earliest arrival
pub earliest_unique : (T : Tables) (q : Question) (k s v w : ℕ) → Earliest T q k s v → Earliest T q k s w → v ≡ w
earliest_unique T q k s v w x y = go (ℕ_discrete v mark) (ℕ_discrete w mark)
  where
    go : Dec (v ≡ mark) → Dec (w ≡ mark) → v ≡ w
    go (yes a) (yes b) = a ∙ sym b
    go (yes a) (no b) = let z = y.some_journey b in absurd (x.none_at_mark a z.0 w z.1 z.2)
    go (no a) (yes b) = let z = x.some_journey a in absurd (y.none_at_mark b z.0 v z.1 z.2)
    go (no a) (no b) =
        let m = x.some_journey a in
        let n = y.some_journey b in
        le_antisymm (x.none_earlier n.0 w n.1 n.2) (y.none_earlier m.0 v m.1 m.2)

module _ (T : Tables) (q : Question) where
  pub length_row : (k : ℕ) → length (row_of T q k) ≡ T.stops
  unfolding row_of first_row next_row
  length_row zero = length-tab T.stops _
  length_row (suc k) = length-tab T.stops _

  -- only stops have labels
  pub row_in_lem : (k s : ℕ) → label (row_of T q k) s ≢ mark → s < T.stops
  unfolding row_of first_row next_row
  row_in_lem zero s h = label_in T.stops _ s h
  row_in_lem (suc k) s h = label_in T.stops _ s h

  -- row 0: the start, at the departure time
  pub label_zero : (s : ℕ) → s < T.stops → label (row_of T q 0) s ≡ only (eqb s q.start) q.time
  unfolding row_of first_row
  label_zero s h = label-tab T.stops _ s h

  pub row_zero : (s : ℕ) → label (row_of T q 0) s ≢ mark → (s ≡ q.start) × (label (row_of T q 0) s ≡ q.time)
  row_zero s h =
      let e = label_zero s (row_in_lem 0 s h) in
      let x = only_hit (eqb s q.start) q.time (λ z. h (e ∙ z)) in
      (eqb-true s q.start x.0, e ∙ x.1)

  pub row_start : q.start < T.stops → label (row_of T q 0) q.start ≡ q.time
  row_start h = label_zero q.start h ∙ only_true (eqb q.start q.start) q.time (eq-eqb q.start q.start refl)

  -- rows never rise
  pub row_suc_le : (k s : ℕ) → s < T.stops → label (row_of T q (suc k)) s ≤ label (row_of T q k) s
  unfolding row_of
  row_suc_le k s h = next_le T (row_of T q k) s h

  pub rows_fall : (j k s : ℕ) → j ≤ k → s < T.stops → label (row_of T q k) s ≤ label (row_of T q j) s
  rows_fall j zero s l h = let e : j ≡ 0 = omega arith in rw e (le_refl _)
  rows_fall j (suc k) s l h =
      by_lt j (suc k)
      (λ m. le_trans (row_suc_le k s h) (rows_fall j k s (omega arith) h))
      (λ m. let e : j ≡ suc k = omega arith in rw e (le_refl _))

  -- a round that leaves its row as it is: so do all later ones
  pub rows_stop : (k d : ℕ) → next_row T (row_of T q k) ≡ row_of T q k → row_of T q (d + k) ≡ row_of T q k
  rows_stop k zero e = ap (row_of T q) (omega arith)
  rows_stop k (suc d) e = ap (row_of T q) (omega arith) ∙ next (d + k) ∙ ap (next_row T) (rows_stop k d e) ∙ e
    where
      next : (n : ℕ) → row_of T q (suc n) ≡ next_row T (row_of T q n)
      next n = unfold row_of in refl

  -- a round that lowers no label leaves its row as it is
  pub no_gain : (k : ℕ) → ((s : ℕ) → s < T.stops → label (row_of T q k) s ≤ label (row_of T q (suc k)) s) → row_of T q (suc k) ≡ row_of T q k
  unfolding label
  no_gain k h =
      ext_get_or mark (row_of T q (suc k)) (row_of T q k) (length_row (suc k) ∙ sym (length_row k))
      λ s l. let m : s < T.stops = omega (arith, length_row (suc k)) in le_antisymm (row_suc_le k s m) (h s m)

  module _ (us : Usable T) (ask : Asked T q) where
    -- no label is past the mark
    pub row_mark : (k s : ℕ) → label (row_of T q k) s ≤ mark
    row_mark k s = go (ℕ_discrete (label (row_of T q k) s) mark) (ℕ_discrete (label (row_of T q 0) s) mark)
      where
        first : label (row_of T q 0) s ≡ q.time → label (row_of T q 0) s ≤ mark
        first e = unfold mark in (let h = ask.time< in omega arith)

        fall : label (row_of T q k) s ≢ mark → label (row_of T q k) s ≤ label (row_of T q 0) s
        fall h = rows_fall 0 k s (omega arith) (row_in_lem k s h)

        go : Dec (label (row_of T q k) s ≡ mark) → Dec (label (row_of T q 0) s ≡ mark) → label (row_of T q k) s ≤ mark
        go (yes e) d = le_of_eq e
        go (no h) (yes e) = le_trans (fall h) (le_of_eq e)
        go (no h) (no n) = le_trans (fall h) (first (row_zero s n).1)

    -- where round k + 1 gains at p there is a last step that arrives just then and boards where row k permits it
    pub last_step : (k p : ℕ) → label (row_of T q (suc k)) p < label (row_of T q k) p → Stepped T (row_of T q k) p (label (row_of T q (suc k)) p)
    unfolding row_of
    last_step k p l =
        let m = row_mark k p in
        step_hit T (row_of T q k) p (row_in_lem (suc k) p (omega arith)) l m

    -- and each such step boards where round k gained, if there was one
    pub back_earlier : (k b p : ℕ) → label (row_of T q (suc (suc k))) p < label (row_of T q (suc k)) p → label (row_of T q (suc k)) b ≢ mark →
        Step T b (label (row_of T q (suc k)) b) p (label (row_of T q (suc (suc k))) p) → label (row_of T q (suc k)) b < label (row_of T q k) b
    back_earlier k b p l m x =
        by_lt (label (row_of T q (suc k)) b) (label (row_of T q k) b) (λ h. h)
        (λ h. let f = row_mark (suc k) b in
        let n = row_mark (suc k) p in
        let g : label (row_of T q (suc k)) p ≤ label (row_of T q (suc (suc k))) p =
        unfold row_of in (step_le T us (row_of T q k) x h (λ z. m (omega arith)) (row_in_lem (suc (suc k)) p (omega arith))) in
        absurd (omega arith))

    -- a step boards at a stop, before the mark, and arrives before it
    step_from : {b a p u : ℕ} → Step T b a p u → b < T.stops
    step_from (ride x) = ride_from T us x
    step_from (ride_walk x w) = ride_from T us x

    ride_before : {b a s t : ℕ} → Ride T b a s t → a < mark
    unfolding mark
    ride_before x =
        let l = x.later in
        let m = x.leave< in
        let c = x.catches in
        let d = us.depart< x.route x.trip x.board x.route< x.trip< (omega arith) in
        omega arith

    step_before : {b a p u : ℕ} → Step T b a p u → a < mark
    step_before (ride x) = ride_before x
    step_before (ride_walk x w) = ride_before x

    ride_arrives : {b a s t : ℕ} → Ride T b a s t → t < 172800
    ride_arrives x =
        let d = us.arrive< x.route x.trip x.leave x.route< x.trip< x.leave< in
        let e = x.arrives in
        omega arith

    step_arrives : {b a p u : ℕ} → Step T b a p u → u < mark
    unfolding mark
    step_arrives (ride x) = let h = ride_arrives x in omega arith
    step_arrives (ride_walk x w) =
        let h = ride_arrives x in
        let e = w.arrives in
        let s = us.seconds≤ w.walk w.walk< in
        omega arith

    pub journey_arrives : {k p u : ℕ} → Journey T q k p u → u < mark
    unfolding mark
    journey_arrives stay = let h = ask.time< in omega arith
    journey_arrives (step j x) = step_arrives x

    -- no journey of k rides arrives before row k's label
    pub row_le : {k p u : ℕ} → Journey T q k p u → p < T.stops → label (row_of T q k) p ≤ u
    unfolding row_of
    row_le stay h = le_of_eq (row_start h)
    row_le {p} {u} (step {k} {b} {a} j x) h =
        let i : label (row_of T q k) b ≤ a = row_le j (step_from x) in
        let m : a < mark = step_before x in
        step_le T us (row_of T q k) x i (omega arith) h

    -- a label of row 0 is the journey that stays
    pub stay_at : (p : ℕ) → label (row_of T q 0) p ≢ mark → Journey T q 0 p (label (row_of T q 0) p)
    stay_at p h =
        let x = row_zero p h in
        subst (λ (s : ℕ). Journey T q 0 s (label (row_of T q 0) p)) (sym x.0) (subst (Journey T q 0 q.start) (sym x.1) stay)

    -- a label that is no mark is the arrival of a journey
    pub row_journey : (k p : ℕ) → label (row_of T q k) p ≢ mark → (j : ℕ) × (j ≤ k) × Journey T q j p (label (row_of T q k) p)
    row_journey zero p h = (0, le_refl 0, stay_at p h)
    row_journey (suc k) p h =
        by_lt (label (row_of T q (suc k)) p) (label (row_of T q k) p)
        (λ l. let x = last_step k p l in
        let y = row_journey k x.b x.reached in
        let g : y.0 ≤ k = y.1 in
        (suc y.0, omega arith, step y.2 x.step))
        (λ l. let e : label (row_of T q (suc k)) p ≡ label (row_of T q k) p = le_antisymm (row_suc_le k p (row_in_lem (suc k) p h)) l in
        let y = row_journey k p (λ z. h (e ∙ z)) in
        (y.0, le_step y.1, subst (Journey T q y.0 p) (sym e) y.2))

    -- row k's labels are the earliest arrivals over all journeys of at most k rides
    pub earliest : (k s : ℕ) → s < T.stops → Earliest T q k s (label (row_of T q k) s)
    earliest k s h = record {
      some_journey = row_journey k s;
      none_earlier = λ j u l x. le_trans (rows_fall j k s l h) (row_le x h);
      none_at_mark = λ e j u l x.
          let a = rows_fall j k s l h in
          let b = row_le x h in
          let c = journey_arrives x in
          omega arith;
    }

    -- and only they are: a list of such numbers is the row
    pub row_only : (k : ℕ) (xs : List ℕ) → length xs ≡ T.stops → ((s : ℕ) → s < T.stops → Earliest T q k s (label xs s)) → xs ≡ row_of T q k
    unfolding label
    row_only k xs l h =
        ext_get_or mark xs (row_of T q k) (l ∙ sym (length_row k))
        λ s m. let n : s < T.stops = omega arith in earliest_unique T q k s (get_or xs s mark) (get_or (row_of T q k) s mark) (h s n) (earliest k s n)

    -- a gain in round k is a journey of exactly k rides, read back step by step
    pub exact : (k p : ℕ) → label (row_of T q (suc k)) p < label (row_of T q k) p → Journey T q (suc k) p (label (row_of T q (suc k)) p)
    exact zero p l = let x = last_step 0 p l in step (stay_at x.b x.reached) x.step
    exact (suc k) p l =
        let x = last_step (suc k) p l in
        step (exact k x.b (back_earlier k x.b p l x.reached x.step)) x.step
