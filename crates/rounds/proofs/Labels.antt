-- The nine rows in the lent labels: which stand there after k rounds, and what the last ones make of the table.
use mathlib.Core.Path.{◌≡◌, sym, ap, ◌∙◌}
use mathlib.Core.Logic.{◌≢◌}
use mathlib.Core.Bool.{cond}
use mathlib.Core.List.{List}
use Prim.Native.Nat.{ℕ, suc, ◌+◌, ◌*◌, ◌-◌, ◌/◌, ◌%◌, ◌≤◌, ◌<◌}
use native.Mathlib.Nat.{div-add-mod', mod-lt, mul-add-mod_self_right, mod-eq_of_lt}
use native.Mathlib.Omega.{arith}
use borrow.Author.Tests.{le-leb, lt-leb, ne_eqb, eqb-true, eqb-false}
use lib.Dec.{eqb, leb}
use lib.ListN.{length, get_or, set, replicate, length-set, length-replicate, get_or-replicate}
use lib.Seq.{ext_get_or, get_or-set_same, get_or-set_other}
use Rattle.laws.specs.Below.{mark}
use Rattle.laws.specs.Lists.{over, written}
use Rattle.laws.proofs.Tests.{by_test, by_lt}
use Rattle.laws.proofs.Below.{only_false}
use Rattle.laws.proofs.Lists.{length-tab, get_d-tab, length-pieces, get_d-pieces, length-part_of, get_d_part, length_over, get_d_over, get_d-over_past, written-length, written_before, written_at, written_after}
use Rattle.paper.specs.Timetable.{Tables}
use Rattle.paper.specs.Rows.{label, row_in, next_row, row_of}
use Rattle.paper.specs.Reply.{labels_table}
use Rattle.paper.specs.declared.Question.{Question}
use Rattle.paper.proofs.Steps.{label_read, label_out}
use Rattle.rounds.specs.Round.{settled}
use Rattle.paper.proofs.Earliest.{length_row, label_zero, row_start}

module _ (T : Tables) (q : Question) where
  -- what stands at stop s of row j once rows 0 to k are written
  unfoldable pub cell_of : ℕ → ℕ → ℕ → ℕ
  cell_of k j s = cond (leb j k) (label (row_of T q j) s) mark

  pub cell_row : (k j s : ℕ) → j ≤ k → cell_of k j s ≡ label (row_of T q j) s
  unfolding cell_of
  cell_row k j s h = rw (le-leb j k h)

  pub cell_mark : (k j s : ℕ) → k < j → cell_of k j s ≡ mark
  unfolding cell_of
  cell_mark k j s h = rw (lt-leb j k h)

  -- past the stops stands the mark
  pub row_past : (k s : ℕ) → T.stops ≤ s → label (row_of T q k) s ≡ mark
  row_past k s h = label_out (row_of T q k) s (rw (length_row T q k) h)

-- rows 0 to k stand in d, and what lies beyond the full size is as it was in d₀
pub record Rows (T : Tables) (q : Question) (k : ℕ) (d₀ d : List ℕ) : Type 0 where
  pub long : length d ≡ length d₀
  pub cell : (j s : ℕ) → j < 9 → s < 256 → get_or d (j * 256 + s) 0 ≡ cell_of T q k j s
  pub past : (i : ℕ) → 2304 ≤ i → get_or d i 0 ≡ get_or d₀ i 0

-- a place of the full size is one of a row
in_row : (i : ℕ) (P : ℕ → Type 0) → i < 2304 → ((j s : ℕ) → j < 9 → s < 256 → P (j * 256 + s)) → P i
in_row i P h f =
    let e : i / 256 * 256 + i % 256 ≡ i = div-add-mod' i 256 in
    let l : i % 256 < 256 = mod-lt i (omega arith) in
    rw e at (f (i / 256) (i % 256) (omega arith) l)

-- ---- the full size as the mark

-- a list whose full size is the mark
abbrev pub filled : List ℕ → List ℕ
filled d = over (replicate 2304 mark) d

marks_long : length (replicate 2304 mark) ≡ 2304
marks_long = length-replicate 2304 mark

module _ (d : List ℕ) (room : 2304 ≤ length d) where
  pub filled_long : length (filled d) ≡ length d
  filled_long = length_over (replicate 2304 mark) d (omega (arith, marks_long))

  filled_at : (i : ℕ) → i < 2304 → get_or (filled d) i 0 ≡ mark
  filled_at i h = get_d_over (replicate 2304 mark) d i 0 (omega (arith, marks_long)) ∙ get_or-replicate 2304 i mark 0 h

  filled_past : (i : ℕ) → 2304 ≤ i → get_or (filled d) i 0 ≡ get_or d i 0
  filled_past i h = get_d-over_past (replicate 2304 mark) d i 0 (omega (arith, marks_long))

module _ (T : Tables) (q : Question) (d₀ : List ℕ) (few : T.stops ≤ 256) (room : 2304 ≤ length d₀) where
  -- ---- row 0

  first_off : (s : ℕ) → s ≢ q.start → label (row_of T q 0) s ≡ mark
  first_off s ne =
      by_lt s T.stops
      (λ h. label_zero T q s h ∙ only_false (eqb s q.start) q.time (ne_eqb s q.start ne))
      (λ h. row_past T q 0 s h)

  module _ (h : q.start < T.stops) where
    first_cell : (j s : ℕ) → j < 9 → s < 256 → get_or (set (filled d₀) q.start q.time) (j * 256 + s) 0 ≡ cell_of T q 0 j s
    first_cell j s hj hs =
        by_test (eqb (j * 256 + s) q.start)
        (λ t. let e : j * 256 + s ≡ q.start = eqb-true (j * 256 + s) q.start t in
        let z : j ≡ 0 = omega arith in
        let y : s ≡ q.start = omega arith in
        rw (e, get_or-set_same (filled d₀) q.start q.time 0 (omega (arith, filled_long d₀ room)))
        (sym (cell_row T q 0 j s (omega arith) ∙ rw (z, y) (row_start T q h))))
        (λ t. let ne = eqb-false (j * 256 + s) q.start t in
        get_or-set_other (filled d₀) q.start (j * 256 + s) q.time 0 ne
        ∙ filled_at d₀ room (j * 256 + s) (omega arith)
        ∙ by_lt 0 j
        (λ l. sym (cell_mark T q 0 j s l))
        (λ l. let z : j ≡ 0 = omega arith in
        sym (cell_row T q 0 j s (omega arith) ∙ rw z (first_off s (λ y. ne (omega arith))))))

    pub rows_start : Rows T q 0 d₀ (set (filled d₀) q.start q.time)
    rows_start =
        record {
          long = length-set (filled d₀) q.start q.time ∙ filled_long d₀ room;
          cell = first_cell;
          past = λ i l. get_or-set_other (filled d₀) q.start i q.time 0 (omega arith) ∙ filled_past d₀ room i l;
        }

  module _ {d : List ℕ} {k : ℕ} (rows : Rows T q k d₀ d) where
    -- ---- row k is lent, and row k + 1 is written after it

    pub row_is : k < 9 → row_in d k T.stops ≡ row_of T q k
    row_is h =
        let long : length (row_in d k T.stops) ≡ T.stops = length-part_of d (k * 256) T.stops (omega (arith, rows.long)) in
        ext_get_or 0 (row_in d k T.stops) (row_of T q k) (long ∙ sym (length_row T q k))
        (λ i l. let b : i < T.stops = omega arith in
        get_d_part d (k * 256) (k * 256 + T.stops) i 0 (omega arith)
        ∙ rows.cell k i h (omega arith)
        ∙ cell_row T q k k i (omega arith)
        ∙ label_read (row_of T q k) i (omega (arith, length_row T q k)))

    module _ {d' : List ℕ} (h : k < 8) (e : d' ≡ written d (k * 256 + 256) (label (next_row T (row_in d k T.stops))) T.stops) where
      next : ℕ → ℕ
      next = label (row_of T q (suc k))

      next_is : d' ≡ written d (k * 256 + 256) next T.stops
      unfolding next row_of
      next_is = rw (row_is (omega arith)) at e

      fits : k * 256 + 256 + T.stops ≤ length d
      fits = omega (arith, rows.long)

      next_cell : (j s : ℕ) → j < 9 → s < 256 → get_or d' (j * 256 + s) 0 ≡ cell_of T q (k + 1) j s
      unfolding next
      next_cell j s hj hs =
          ap (λ (l : List ℕ). get_or l (j * 256 + s) 0) next_is
          ∙ by_lt j (k + 1)
          (λ l. written_before d (k * 256 + 256) next T.stops fits (j * 256 + s) 0 (omega arith)
          ∙ rows.cell j s hj hs ∙ cell_row T q k j s (omega arith) ∙ sym (cell_row T q (k + 1) j s (omega arith)))
          (λ l. by_lt (k + 1) j
          (λ m. written_after d (k * 256 + 256) next T.stops fits (j * 256 + s) 0 (omega arith)
          ∙ rows.cell j s hj hs ∙ cell_mark T q k j s (omega arith) ∙ sym (cell_mark T q (k + 1) j s m))
          (λ m. by_lt s T.stops
          (λ o. let z : j ≡ suc k = omega arith in
          written_at d (k * 256 + 256) next T.stops fits (j * 256 + s) s 0 (omega arith) o
          ∙ sym (cell_row T q (k + 1) j s (omega arith) ∙ ap (λ (j : ℕ). label (row_of T q j) s) z))
          (λ o. written_after d (k * 256 + 256) next T.stops fits (j * 256 + s) 0 (omega arith)
          ∙ rows.cell j s hj hs ∙ cell_mark T q k j s (omega arith) ∙ sym (cell_row T q (k + 1) j s (omega arith) ∙ row_past T q j s o))))

      pub rows_step : Rows T q (k + 1) d₀ d'
      rows_step =
          record {
            long = ap length next_is ∙ written-length d (k * 256 + 256) next T.stops fits ∙ rows.long;
            cell = next_cell;
            past = λ i l. ap (λ (l : List ℕ). get_or l i 0) next_is
                ∙ written_after d (k * 256 + 256) next T.stops fits i 0 (omega arith)
                ∙ rows.past i l;
          }

    -- ---- the rows after the last round

    module _ {d' : List ℕ} {limit : ℕ} (h : k ≤ limit) (most : limit ≤ 8) (same : (j : ℕ) → k ≤ j → row_of T q j ≡ row_of T q k) (e : d' ≡ settled d k limit) where
      again : ℕ → ℕ
      again i = get_or d (k * 256 + i % 256) 0

      again_is : d' ≡ written d (k * 256 + 256) again ((limit - k) * 256)
      unfolding settled again
      again_is = e

      fits_too : k * 256 + 256 + (limit - k) * 256 ≤ length d
      fits_too = omega (arith, rows.long)

      again_row : (j s : ℕ) → k < j → s < 256 → again ((j - k - 1) * 256 + s) ≡ label (row_of T q j) s
      unfolding again
      again_row j s l hs =
          let m : ((j - k - 1) * 256 + s) % 256 ≡ s = mul-add-mod_self_right (j - k - 1) 256 s ∙ mod-eq_of_lt hs in
          rw m (rows.cell k s (omega arith) hs ∙ cell_row T q k k s (omega arith) ∙ ap (λ (r : List ℕ). label r s) (sym (same j (omega arith))))

      settled_cell : (j s : ℕ) → j < 9 → s < 256 → get_or d' (j * 256 + s) 0 ≡ cell_of T q limit j s
      settled_cell j s hj hs =
          ap (λ (l : List ℕ). get_or l (j * 256 + s) 0) again_is
          ∙ by_lt k j
          (λ l. by_lt limit j
          (λ m. written_after d (k * 256 + 256) again ((limit - k) * 256) fits_too (j * 256 + s) 0 (omega arith)
          ∙ rows.cell j s hj hs ∙ cell_mark T q k j s l ∙ sym (cell_mark T q limit j s m))
          (λ m. written_at d (k * 256 + 256) again ((limit - k) * 256) fits_too (j * 256 + s) ((j - k - 1) * 256 + s) 0 (omega arith) (omega arith)
          ∙ again_row j s l hs ∙ sym (cell_row T q limit j s m)))
          (λ l. written_before d (k * 256 + 256) again ((limit - k) * 256) fits_too (j * 256 + s) 0 (omega arith)
          ∙ rows.cell j s hj hs ∙ cell_row T q k j s l ∙ sym (cell_row T q limit j s (omega arith)))

      pub rows_settled : Rows T q limit d₀ d'
      rows_settled =
          record {
            long = ap length again_is ∙ written-length d (k * 256 + 256) again ((limit - k) * 256) fits_too ∙ rows.long;
            cell = settled_cell;
            past = λ i l. ap (λ (l : List ℕ). get_or l i 0) again_is
                ∙ written_after d (k * 256 + 256) again ((limit - k) * 256) fits_too i 0 (omega arith)
                ∙ rows.past i l;
          }

    -- ---- the whole table

    pub rows_filled : {d' : List ℕ} → d' ≡ filled d → d' ≡ filled d₀
    rows_filled e =
        let r : 2304 ≤ length d = omega (arith, rows.long) in
        e ∙ ext_get_or 0 (filled d) (filled d₀) (filled_long d r ∙ rows.long ∙ sym (filled_long d₀ room))
        (λ i _. by_lt i 2304
        (λ l. filled_at d r i l ∙ sym (filled_at d₀ room i l))
        (λ l. filled_past d r i l ∙ rows.past i l ∙ sym (filled_past d₀ room i l)))

  table_long : length (labels_table T q) ≡ 2304
  unfolding labels_table
  table_long = length-pieces 9 _ 256 (λ i l. length-tab 256 _)

  table_cell : (j s : ℕ) → j < 9 → s < 256 → get_or (labels_table T q) (j * 256 + s) 0 ≡ cell_of T q q.limit j s
  unfolding labels_table cell_of
  table_cell j s hj hs =
      let e : j * 256 + s ≡ 256 * j + s = omega arith in
      rw e (get_d-pieces 9 _ 256 (λ i l. length-tab 256 _) j s 0 hj hs ∙ get_d-tab 256 _ s 0 hs)

  pub rows_end : {d : List ℕ} → Rows T q q.limit d₀ d → d ≡ over (labels_table T q) d₀
  rows_end {d} rows =
      let n = table_long in
      ext_get_or 0 d (over (labels_table T q) d₀) (rows.long ∙ sym (length_over (labels_table T q) d₀ (omega arith)))
      (λ i _. by_lt i 2304
      (λ l. in_row i (λ i. get_or d i 0 ≡ get_or (over (labels_table T q) d₀) i 0) l
      (λ j s hj hs. rows.cell j s hj hs ∙ sym (get_d_over (labels_table T q) d₀ (j * 256 + s) 0 (omega arith) ∙ table_cell j s hj hs)))
      (λ l. rows.past i l ∙ sym (get_d-over_past (labels_table T q) d₀ i 0 (omega arith))))
