-- Rounds run until one improves nothing: after that the rows stay; and where the work passes the budget, the first round that does.
use mathlib.Core.Path.{◌≡◌, refl, sym, ap, ◌∙◌}
use mathlib.Core.Bool.{Bool, true, false, not}
use Prim.Native.Nat.{ℕ, zero, suc, ◌+◌, ◌-◌, ◌≤◌, ◌<◌, min}
use native.Mathlib.Nat.{le_refl}
use native.Mathlib.Omega.{arith}
use borrow.Author.Tests.{not-true, ltb-true, ltb-false, lt-ltb, le-ltb}
use lib.Dec.{ltb}
use Rattle.laws.specs.Below.{first_below, sum_below}
use Rattle.laws.proofs.Tests.{by_lt, both_ways}
use Rattle.laws.proofs.Below.{any_below_none, first_below_of, first_below_hit, first_below_not, first_below_is, first_below-only, sum_below_mono}
use Rattle.paper.specs.Timetable.{Tables}
use Rattle.paper.specs.Rows.{label, next_row, row_of}
use Rattle.paper.specs.Work.{round_cost, improves, rounds_run, work_to, work_of, passing_round}
use Rattle.paper.specs.declared.Question.{Question}
use Rattle.paper.proofs.Earliest.{rows_stop, no_gain}

module _ (T : Tables) (q : Question) where
  -- a round that improves no stop is the last that matters
  pub stopped : (k d : ℕ) → improves T (row_of T q k) ≡ false → row_of T q (d + k) ≡ row_of T q k
  unfolding improves row_of
  stopped k d e =
      rows_stop T q k d
      (no_gain T q k λ s h. ltb-false _ _ (any_below_none T.stops (λ s. ltb (label (next_row T (row_of T q k)) s) (label (row_of T q k) s)) e s h))

  -- round k + 1 improves nothing
  abbrev idle : ℕ → Bool
  idle k = not (improves T (row_of T q k))

  pub rounds_stop : (k : ℕ) → rounds_run T q ≤ k → k ≤ q.limit → row_of T q k ≡ row_of T q (rounds_run T q)
  unfolding rounds_run
  rounds_stop k l m =
      let f = first_below q.limit idle in
      by_lt f q.limit
      (λ h. let e : improves T (row_of T q f) ≡ false = not-true (improves T (row_of T q f)) (first_below_hit q.limit idle h) in
      let a : row_of T q k ≡ row_of T q f = ap (row_of T q) (omega arith) ∙ stopped f (k - f) e in
      let b : row_of T q (min q.limit (suc f)) ≡ row_of T q f = ap (row_of T q) (omega arith) ∙ stopped f 1 e in
      a ∙ sym b)
      (λ h. ap (row_of T q) (omega arith))

  pub work_mono : (j k : ℕ) → j ≤ k → work_to T q j ≤ work_to T q k
  unfolding work_to
  work_mono j k h = sum_below_mono j k (λ j. round_cost T (row_of T q j)) h

  work_none : work_to T q 0 ≡ 0
  unfolding work_to sum_below
  work_none = refl

  -- the first k rounds' work is above the budget
  abbrev passes : ℕ → Bool
  passes k = ltb q.budget (work_to T q (suc k))

  pub passing : q.budget < work_of T q →
      (passing_round T q ≤ rounds_run T q) × (q.budget < work_to T q (passing_round T q)) × ((k : ℕ) → k < passing_round T q → work_to T q k ≤ q.budget)
  unfolding passing_round work_of
  passing h = go (rounds_run T q) h
    where
      before : (r k : ℕ) → k < suc (first_below r passes) → work_to T q k ≤ q.budget
      before r zero l = omega (arith, work_none)
      before r (suc k) l = ltb-false _ _ (first_below_not r passes k (omega arith))

      go : (r : ℕ) → q.budget < work_to T q r →
          (suc (first_below r passes) ≤ r) × (q.budget < work_to T q (suc (first_below r passes))) × ((k : ℕ) → k < suc (first_below r passes) → work_to T q k ≤ q.budget)
      go zero l = absurd (omega (arith, work_none))
      go (suc r) l =
          let a = first_below_of (suc r) passes r (le_refl (suc r)) (lt-ltb _ _ l) in
          (omega arith, ltb-true _ _ (first_below_hit (suc r) passes (omega arith)), before (suc r))

  -- and it is the only such round
  pub passing_is : (k : ℕ) → k ≤ rounds_run T q → q.budget < work_to T q k → ((j : ℕ) → j < k → work_to T q j ≤ q.budget) → passing_round T q ≡ k
  unfolding passing_round
  passing_is zero l h before = absurd (omega (arith, work_none))
  passing_is (suc k) l h before =
      ap suc (first_below_is (rounds_run T q) passes k l (lt-ltb _ _ h) (λ i m. le-ltb _ _ (before (suc i) (omega arith))))

  -- as a loop finds them: the round after k rounds that all improved is run, if the limit allows it; and the last
  pub rounds_reach : (k : ℕ) → k < q.limit → ((j : ℕ) → j < k → improves T (row_of T q j) ≡ true) → k < rounds_run T q
  unfolding rounds_run
  rounds_reach k l h =
      let f = first_below q.limit idle in
      by_lt f k
      (λ m. both_ways (h f m) (not-true (improves T (row_of T q f)) (first_below_hit q.limit idle (omega arith))))
      (λ m. omega arith)

  pub rounds_end : (k : ℕ) → k < q.limit → ((j : ℕ) → j < k → improves T (row_of T q j) ≡ true) → improves T (row_of T q k) ≡ false → rounds_run T q ≡ suc k
  unfolding rounds_run
  rounds_end k l h e =
      let f = first_below_is q.limit idle k l (ap not e) (λ i m. ap not (h i m)) in
      omega arith

  pub rounds_all : ((j : ℕ) → j < q.limit → improves T (row_of T q j) ≡ true) → rounds_run T q ≡ q.limit
  unfolding rounds_run
  rounds_all h =
      let f = first_below-only q.limit idle q.limit (le_refl q.limit) (λ i m. ap not (h i m)) (λ m. absurd (omega arith)) in
      omega arith
