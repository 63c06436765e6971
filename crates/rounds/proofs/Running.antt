-- What `run` keeps, round by round, and the three ways in which it ends.
use mathlib.Core.Path.{◌≡◌, refl, sym, ap, ◌∙◌}
use mathlib.Core.Bool.{Bool, true, false, not, ◌||◌}
use mathlib.Core.List.{List}
use Rattle.std.specs.Prelude.{Ok, Err}
use Prim.Native.Nat.{ℕ, ◌+◌, ◌-◌, ◌≤◌, ◌<◌}
use native.Mathlib.Numerals.{add-one}
use native.Mathlib.Omega.{arith}
use borrow.Author.Tests.{ltb-true, ltb-false, lt-ltb, le-ltb}
use lib.Dec.{ltb}
use lib.ListN.{length, set}
use Rattle.laws.specs.Below.{sum_below}
use Rattle.laws.proofs.Tests.{by_test, by_lt, both_ways}
use Rattle.laws.proofs.Below.{sum_below_next}
use Rattle.paper.specs.Rules.{refusal}
use Rattle.paper.specs.Timetable.{Tables}
use Rattle.paper.specs.Rows.{row_in, row_of}
use Rattle.paper.specs.Work.{round_cost, improves, rounds_run, work_to, work_of}
use Rattle.paper.specs.Reply.{question_broken}
use Rattle.paper.specs.declared.Question.{Question}
use Rattle.paper.proofs.Rounds.{stopped, work_mono, passing_is, rounds_reach, rounds_end, rounds_all}
use Rattle.rounds.specs.Round.{RoundAsked, RoundDone, Settling, settled}
use Rattle.rounds.specs.Run.{Asked, rounds_of, labels_left, Ran}
use Rattle.scan.proofs.Riding.{sum_most}
use Rattle.rounds.proofs.Rounding.{cost_few}
use Rattle.rounds.proofs.Labels.{Rows, filled, filled_long, rows_start, row_is, rows_step, rows_settled, rows_filled, rows_end}
use Rattle.laws.proofs.Checking.{or_none}
use Rattle.paper.proofs.Earliest.{length_row}

-- k rounds are run, all improved a stop, and their work is within the budget
pub record Running (T : Tables) (q : Question) (labels₀ labels : List ℕ) (work k : ℕ) : Type 0 where
  pub below : k ≤ q.limit
  pub rows : Rows T q k labels₀ labels
  pub work_is : work ≡ work_to T q k
  pub within : work ≤ q.budget
  pub improving : (j : ℕ) → j < k → improves T (row_of T q j) ≡ true

module _ (T : Tables) (q : Question) (labels₀ : List ℕ) (asked : Asked T q labels₀) where
  pub start< : q.start < T.stops
  unfolding question_broken
  start< =
      by_test (ltb q.start T.stops)
      (λ t. ltb-true q.start T.stops t)
      (λ t. both_ways refl (rw t at asked.good))

  pub limit≤ : q.limit ≤ 8
  unfolding question_broken
  limit≤ =
      let past = or_none (not (ltb q.start T.stops) || not (ltb q.target T.stops) || not (ltb q.time 172800)) (ltb 8 q.limit) asked.good in
      ltb-false 8 q.limit past.1

  few : T.stops ≤ 256
  few = asked.fit.sound.stops≤

  first : Rows T q 0 labels₀ (set (filled labels₀) q.start q.time)
  first = rows_start T q labels₀ few asked.room start<

  -- the labels where the loop begins are not those that came, but beyond the full size they are the same
  module _ {cleared : List ℕ} (e : cleared ≡ filled labels₀) where
    abbrev begun : List ℕ
    begun = set cleared q.start q.time

    begun_rows : Rows T q 0 labels₀ begun
    begun_rows = rw e first

    pub running_start : Running T q begun begun 0 0
    unfolding work_to sum_below
    running_start =
        record {
          below = omega arith;
          rows = record { long = refl; cell = begun_rows.cell; past = λ i l. refl };
          work_is = refl;
          within = omega arith;
          improving = λ j l. absurd (omega arith);
        }

    pub since_entry : {labels : List ℕ} {work k : ℕ} → Running T q begun labels work k → Running T q labels₀ labels work k
    since_entry ru =
        record {
          below = ru.below;
          rows = record { long = ru.rows.long ∙ begun_rows.long; cell = ru.rows.cell; past = λ i l. ru.rows.past i l ∙ begun_rows.past i l };
          work_is = ru.work_is;
          within = ru.within;
          improving = ru.improving;
        }

    pub since_begun : {labels : List ℕ} {work k : ℕ} → Running T q labels₀ labels work k → Running T q begun labels work k
    since_begun ru =
        record {
          below = ru.below;
          rows = record { long = ru.rows.long ∙ sym begun_rows.long; cell = ru.rows.cell; past = λ i l. ru.rows.past i l ∙ sym (begun_rows.past i l) };
          work_is = ru.work_is;
          within = ru.within;
          improving = ru.improving;
        }

    pub start_in : q.start < length cleared
    start_in = omega (arith, ap length e, filled_long labels₀ asked.room, asked.room, few, start<)

  -- the work is within the budget, and all rows are there
  ended : {labels : List ℕ} {work : ℕ} → work ≡ work_of T q → work ≤ q.budget → Rows T q q.limit labels₀ labels → Ran T q labels₀ labels (Ok work)
  unfolding rounds_of labels_left
  ended e h rows =
      let t = le-ltb q.budget (work_of T q) (omega arith) in
      record { answer_is = rw (t, e); labels_are = rw t (rows_end T q labels₀ few asked.room rows) }

  module _ {labels : List ℕ} {work k : ℕ} (ru : Running T q labels₀ labels work k) where
    pub labels_long : length labels ≡ length labels₀
    labels_long = ru.rows.long

    -- the ride limit is done
    pub running_end : q.limit ≤ k → Ran T q labels₀ labels (Ok work)
    unfolding work_of
    running_end h =
        let z : k ≡ q.limit = omega (arith, ru.below) in
        let e : rounds_run T q ≡ q.limit = rounds_all T q (rw z at ru.improving) in
        ended (ru.work_is ∙ ap (work_to T q) (z ∙ sym e)) ru.within (rw z at ru.rows)

    module _ (h : k < q.limit) where
      pub round_asked : RoundAsked T labels k
      round_asked = record { fit = asked.fit; room = omega (arith, labels_long, asked.room); few = omega (arith, limit≤) }

      row : row_in labels k T.stops ≡ row_of T q k
      row = row_is T q labels₀ few asked.room ru.rows (omega (arith, limit≤))

      module _ {labels' : List ℕ} {w : ℕ} {improved : Bool} (done : RoundDone T labels labels' k w improved) where
        work_next : work + w ≡ work_to T q (k + 1)
        unfolding work_to
        work_next =
            let e : w ≡ round_cost T (row_of T q k) = rw row at done.work_is in
            omega (arith, ru.work_is, sum_below_next k (λ j. round_cost T (row_of T q j)))

        pub work_small : work + w ≤ 320000
        unfolding work_to
        work_small =
            let m = sum_most (k + 1) (λ j. round_cost T (row_of T q j)) 40000 (λ j l. cost_few T asked.fit (row_of T q j) (length_row T q j)) in
            omega (arith, work_next, limit≤)

        rows_next : Rows T q (k + 1) labels₀ labels'
        rows_next = rows_step T q labels₀ few asked.room ru.rows (omega (arith, limit≤)) done.labels_are

        pub next_long : length labels' ≡ length labels₀
        next_long = rows_next.long

        pub still_room : 2304 ≤ length labels'
        still_room = omega (arith, next_long, asked.room)

        pub settling : Settling (length labels') (k + 1) q.limit
        settling = record { room = still_room; below = omega arith; few = limit≤ }

        improved_is : improved ≡ improves T (row_of T q k)
        improved_is = rw row at done.improved_is

        -- the work passes the budget
        pub run_passed : {labels'' : List ℕ} → q.budget < work + w → labels'' ≡ filled labels' → Ran T q labels₀ labels'' (Err (refusal 13 (k + 1)))
        unfolding rounds_of labels_left work_of
        run_passed b e =
            let r = rounds_reach T q k h ru.improving in
            let m = work_mono T q (k + 1) (rounds_run T q) (omega arith) in
            let p : q.budget < work_to T q (k + 1) = omega (arith, work_next) in
            let t = lt-ltb q.budget (work_to T q (rounds_run T q)) (omega arith) in
            let z = passing_is T q (k + 1) (omega arith) p (λ j l. omega (arith, work_mono T q j k (omega arith), ru.work_is, ru.within)) in
            record { answer_is = rw (t, z); labels_are = rw t (rows_filled T q labels₀ few asked.room rows_next e) }

        -- the round improved no stop, and the rows up to the limit equal it
        module _ {labels'' : List ℕ} (i : improved ≡ false) (e : labels'' ≡ settled labels' (k + 1) q.limit) where
          none : improves T (row_of T q k) ≡ false
          none = sym improved_is ∙ i

          same : (j : ℕ) → k + 1 ≤ j → row_of T q j ≡ row_of T q (k + 1)
          same j l =
              let one : row_of T q (k + 1) ≡ row_of T q k = ap (row_of T q) (omega arith) ∙ stopped T q k 1 none in
              ap (row_of T q) (omega arith) ∙ stopped T q k (j - k) none ∙ sym one

          rows_last : Rows T q q.limit labels₀ labels''
          rows_last = rows_settled T q labels₀ few asked.room rows_next (omega arith) limit≤ same e

          pub run_stopped : work + w ≤ q.budget → Ran T q labels₀ labels'' (Ok (work + w))
          unfolding work_of
          run_stopped b =
              let z : rounds_run T q ≡ k + 1 = rounds_end T q k h ru.improving none ∙ sym (add-one k) in
              ended (work_next ∙ ap (work_to T q) (sym z)) b rows_last

        pub running_step : work + w ≤ q.budget → improved ≡ true → Running T q labels₀ labels' (work + w) (k + 1)
        running_step b i =
            record {
              below = omega arith;
              rows = rows_next;
              work_is = work_next;
              within = b;
              improving = λ j l. by_lt j k (λ m. ru.improving j m) (λ m. let z : j ≡ k = omega arith in rw z (sym improved_is ∙ i));
            }
