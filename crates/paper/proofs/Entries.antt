-- The entries: journeys of just so many rides, each earlier than all with fewer; there is one where the target is reached.
use mathlib.Core.Path.{◌≡◌}
use mathlib.Core.Logic.{◌≢◌}
use mathlib.Core.Bool.{true}
use Prim.Native.Nat.{ℕ, zero, suc, ◌≤◌, ◌<◌}
use native.Mathlib.Nat.{le_step, le_refl}
use native.Mathlib.Omega.{arith}
use borrow.Author.Tests.{ltb-true, lt-ltb}
use lib.ListN.{length, length-append}
use Rattle.laws.specs.Below.{mark, min_below}
use Rattle.laws.proofs.Tests.{by_test, by_lt}
use Rattle.laws.proofs.Below.{min_below_le, min_below-mark, le_min_below}
use Rattle.paper.specs.Timetable.{Tables}
use Rattle.paper.specs.Rows.{label, row_of}
use Rattle.paper.specs.Journey.{Journey}
use Rattle.paper.specs.Tie.{is_entry, entries_below}
use Rattle.paper.specs.declared.Question.{Question}
use Rattle.paper.proofs.Usable.{Usable, Asked}
use Rattle.paper.proofs.Earliest.{row_mark, row_le, rows_fall}
use Rattle.paper.proofs.Legs.{Gained, legs_journey}

module _ (T : Tables) (q : Question) where
  -- row k's arrival at the target
  abbrev pub at_target : ℕ → ℕ
  at_target k = label (row_of T q k) q.target

  -- an entry is a row that is earlier at the target than every row before it
  pub entry_is : (k : ℕ) → is_entry T q k ≡ true → (label (row_of T q k) q.target ≢ mark) × ((j : ℕ) → j < k → label (row_of T q k) q.target < label (row_of T q j) q.target)
  unfolding is_entry
  entry_is k e =
      let l = ltb-true (at_target k) (min_below k at_target) e in
      let m = min_below-mark k at_target in
      (omega arith, λ j h. let n = min_below_le k at_target j h in omega arith)

  pub entry_gained : (k : ℕ) → is_entry T q k ≡ true → Gained T q k q.target
  entry_gained zero e = (entry_is zero e).0
  entry_gained (suc k) e = (entry_is (suc k) e).1 k (le_refl (suc k))

  -- at most one for each row
  pub entries_few : (k : ℕ) → length (entries_below T q k) ≤ k
  unfolding entries_below
  entries_few zero = le_refl 0
  entries_few (suc k) =
      let h = entries_few k in
      by_test (is_entry T q k)
      (λ t. rw (t, length-append) (omega arith))
      (λ t. rw (t, length-append) (omega arith))

module _ (T : Tables) (q : Question) (us : Usable T) (ask : Asked T q) where
  pub entry_of_lem : (k : ℕ) → label (row_of T q k) q.target ≢ mark → ((j : ℕ) → j < k → label (row_of T q k) q.target < label (row_of T q j) q.target) → is_entry T q k ≡ true
  unfolding is_entry
  entry_of_lem k m h =
      let b = row_mark T q us ask k q.target in
      lt-ltb (at_target T q k) (min_below k (at_target T q)) (le_min_below k (at_target T q) (suc (at_target T q k)) (omega arith) h)

  -- since rows never rise, the row before is the one to compare with
  pub gained_entry : (k : ℕ) → Gained T q k q.target → is_entry T q k ≡ true
  gained_entry zero h = entry_of_lem zero h λ j l. absurd (omega arith)
  gained_entry (suc k) h =
      let m = row_mark T q us ask k q.target in
      entry_of_lem (suc k) (omega arith) λ j l.
      let r = rows_fall T q j k q.target (omega arith) ask.target< in
      omega arith

  -- an entry of k rides: a journey of just k rides comes to the target then, and with fewer rides every journey arrives later
  pub entry_journeys : (k : ℕ) → is_entry T q k ≡ true →
      Journey T q k q.target (label (row_of T q k) q.target) × ((j u : ℕ) → j < k → Journey T q j q.target u → label (row_of T q k) q.target < u)
  entry_journeys k e = (
    (legs_journey T q us ask k q.target (entry_gained T q k e)).0,
    λ j u l x.
        let a = (entry_is T q k e).1 j l in
        let b = row_le T q us ask x ask.target< in
        omega arith,
  )

  -- where row k has the target there is an entry among rows 0 .. k
  pub some_entry : (k : ℕ) → label (row_of T q k) q.target ≢ mark → (j : ℕ) × (j ≤ k) × (is_entry T q j ≡ true)
  some_entry zero h = (0, le_refl 0, gained_entry 0 h)
  some_entry (suc k) h =
      by_lt (label (row_of T q (suc k)) q.target) (label (row_of T q k) q.target)
      (λ l. (suc k, le_refl (suc k), gained_entry (suc k) l))
      (λ l. let m = row_mark T q us ask (suc k) q.target in
      let x = some_entry k (λ z. h (omega arith)) in
      (x.0, le_step x.1, x.2))
