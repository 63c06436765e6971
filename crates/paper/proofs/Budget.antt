-- Rows, work, entries, legs and tables do not look at the budget.
use mathlib.Core.Path.{◌≡◌, refl, ap, ◌∙◌, fun_ext}
use mathlib.Core.Bool.{cond, not}
use mathlib.Core.List.{List, [], ◌∷◌, ◌++◌}
use Rattle.std.specs.Prelude.{None, Some}
use Prim.Native.Nat.{ℕ, zero, suc, min}
use lib.Dec.{leb, ltb}
use Rattle.laws.specs.Below.{mark, min_below, first_below, sum_below}
use Rattle.laws.specs.Lists.{tab, pieces}
use Rattle.paper.specs.Timetable.{Tables}
use Rattle.paper.specs.Rows.{label, next_row, first_row, row_of}
use Rattle.paper.specs.Work.{round_cost, improves, rounds_run, work_to, work_of}
use Rattle.paper.specs.Tie.{is_entry, entry_of, entries_below, entries_of, first_step, board_stop, legs_of}
use Rattle.paper.specs.Reply.{labels_table, legs_row, legs_table}
use Rattle.paper.specs.Demands.{with_budget}
use Rattle.paper.specs.declared.Question.{Question}
use Rattle.paper.specs.declared.Entry.{Entry}
use Rattle.paper.specs.declared.Leg.{Leg}

-- a step of `legs_of`, over the two rows and the legs before
unfoldable step_back : Tables → ℕ → List ℕ → List ℕ → (ℕ → List Leg) → List Leg
step_back T p row next before = elim (first_step T row p (label next p)) [ None ↦ [] | Some g ↦ before (board_stop T g) ++ (g ∷ []) ]

module _ (T : Tables) (q : Question) (b : ℕ) where
  row_same : (k : ℕ) → row_of T (with_budget q b) k ≡ row_of T q k
  unfolding row_of first_row
  row_same zero = refl
  row_same (suc k) = ap (next_row T) (row_same k)

  rows_same : ◌≡◌ {A = ℕ → List ℕ} (row_of T (with_budget q b)) (row_of T q)
  rows_same = fun_ext row_same

  pub work_to_same : (k : ℕ) → work_to T (with_budget q b) k ≡ work_to T q k
  unfolding work_to
  work_to_same k = ap (λ (R : ℕ → List ℕ). sum_below k λ j. round_cost T (R j)) rows_same

  pub rounds_same : rounds_run T (with_budget q b) ≡ rounds_run T q
  unfolding rounds_run
  rounds_same = ap (λ (R : ℕ → List ℕ). min q.limit (suc (first_below q.limit λ k. not (improves T (R k))))) rows_same

  pub work_same : work_of T (with_budget q b) ≡ work_of T q
  unfolding work_of
  work_same = ap (work_to T (with_budget q b)) rounds_same ∙ work_to_same (rounds_run T q)

  is_entry_same : (k : ℕ) → is_entry T (with_budget q b) k ≡ is_entry T q k
  unfolding is_entry
  is_entry_same k = ap (λ (R : ℕ → List ℕ). ltb (label (R k) q.target) (min_below k λ j. label (R j) q.target)) rows_same

  entry_same : (k : ℕ) → entry_of T (with_budget q b) k ≡ entry_of T q k
  entry_same k = ap (λ (row : List ℕ). let e : Entry = record { rides = k; arrival = label row q.target } in e) (row_same k)

  entries_below_same : (k : ℕ) → entries_below T (with_budget q b) k ≡ entries_below T q k
  unfolding entries_below
  entries_below_same zero = refl
  entries_below_same (suc k) = rw (entries_below_same k, is_entry_same k, entry_same k)

  pub entries_same : entries_of T (with_budget q b) ≡ entries_of T q
  unfolding entries_of
  entries_same = entries_below_same (suc q.limit)

  legs_same : (k p : ℕ) → legs_of T (with_budget q b) k p ≡ legs_of T q k p
  unfolding legs_of step_back
  legs_same zero p = refl
  legs_same (suc k) p = λ i. step_back T p (row_same k i) (row_same (suc k) i) (λ s. legs_same k s i)

  pub labels_same : labels_table T (with_budget q b) ≡ labels_table T q
  unfolding labels_table
  labels_same = ap (λ (R : ℕ → List ℕ). pieces 9 λ k. tab 256 λ s. cond (leb k q.limit) (label (R k) s) mark) rows_same

  legs_row_same : (k : ℕ) → legs_row T (with_budget q b) k ≡ legs_row T q k
  unfolding legs_row
  legs_row_same k = rw (is_entry_same k, legs_same k q.target)

  pub legs_table_same : legs_table T (with_budget q b) ≡ legs_table T q
  unfolding legs_table
  legs_table_same = ap (λ (R : ℕ → List ℕ). pieces 8 λ k. R (suc k)) (fun_ext legs_row_same)
