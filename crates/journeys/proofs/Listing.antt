-- The entries and the legs table: what the loop over the rows keeps, and its two kinds of turn.
use mathlib.Core.Path.{◌≡◌, refl, sym, ap, ap₂, ◌∙◌}
use mathlib.Core.Logic.{◌≢◌}
use mathlib.Core.Bool.{Bool, true, false, cond}
use mathlib.Core.List.{List, [], ◌∷◌, ◌++◌, append_assoc, append-nil}
use Prim.Native.Nat.{ℕ, zero, suc, ◌+◌, ◌*◌, ◌-◌, ◌≤◌, ◌<◌}
use native.Mathlib.Nat.{le_refl}
use native.Mathlib.Numerals.{add-one}
use native.Mathlib.Omega.{arith}
use borrow.Author.Tests.{lt-ltb, le-ltb, le-leb, lt-leb}
use lib.Dec.{ltb, leb}
use lib.ListN.{length, get_or, set, replicate, length-append, length-replicate}
use lib.Seq.{sets, length-sets, set-append_seam}
use Rattle.laws.specs.Below.{mark, min_below}
use Rattle.laws.specs.Lists.{tab, pieces, over}
use Rattle.laws.proofs.Tests.{by_lt}
use Rattle.laws.proofs.Below.{min_below_next}
use Rattle.laws.proofs.Lists.{length-pieces, pieces_same, over-over}
use Rattle.paper.specs.Timetable.{Tables}
use Rattle.paper.specs.Tie.{is_entry, entry_of, entries_below, entries_of, legs_of}
use Rattle.paper.specs.Reply.{zero_entry, in_nine, leg_numbers, legs_row, legs_table}
use Rattle.paper.specs.declared.Entry.{Entry}
use Rattle.paper.specs.declared.Question.{Question}
use Rattle.paper.proofs.Answers.{length_legs, length_row}
use Rattle.paper.proofs.Entries.{at_target, entry_gained}
use Rattle.journeys.specs.declared.Listed.{Listed}
use Rattle.journeys.specs.ReadBack.{legs_in, Traceable, listed_also, Readable, ReadBack}
use Rattle.laws.proofs.Runs.{mark_is, over_sets_piece, sets_marks, and_none}
use Rattle.journeys.proofs.Labelled.{good_of, labels_room, label_at, rides_after, leads_of, legs_same, legs_fit}

-- ---- the entries

-- one more stored at the end of what stands in the nine
nine_more : (es : List Entry) (e : Entry) → length es < 9 → set (in_nine es) (length es) e ≡ in_nine (es ++ (e ∷ []))
nine_more es e l =
    let h : 9 - length es ≡ suc (9 - (length es + 1)) = omega arith in
    rw (length-append, h, set-append_seam, append_assoc)

module _ (T : Tables) (q : Question) where
  is_listed : (k : ℕ) {a b : ℕ} → a ≡ at_target T q k → b ≡ min_below k (at_target T q) → a < b → is_entry T q k ≡ true
  unfolding is_entry
  is_listed k ea eb l = lt-ltb (at_target T q k) (min_below k (at_target T q)) (omega arith)

  not_listed : (k : ℕ) {a b : ℕ} → a ≡ at_target T q k → b ≡ min_below k (at_target T q) → b ≤ a → is_entry T q k ≡ false
  unfolding is_entry
  not_listed k ea eb l = le-ltb (at_target T q k) (min_below k (at_target T q)) (omega arith)

  entries_take : (k : ℕ) → is_entry T q k ≡ true → entries_below T q (k + 1) ≡ entries_below T q k ++ (entry_of T q k ∷ [])
  unfolding entries_below
  entries_take k e = rw (add-one, e)

  entries_skip : (k : ℕ) → is_entry T q k ≡ false → entries_below T q (k + 1) ≡ entries_below T q k
  unfolding entries_below
  entries_skip k e = rw (add-one, e) (append-nil (entries_below T q k))

  -- ---- the legs table

  -- the rows of the entries of fewer than k rides, the others marked
  rows_below : ℕ → ℕ → List ℕ
  rows_below k i = cond (ltb (suc i) k) (legs_row T q (suc i)) (replicate 40 mark)

  pub legs_below : ℕ → List ℕ
  legs_below k = pieces 8 (rows_below k)

  length_rows : (k i : ℕ) → length (rows_below k i) ≡ 40
  unfolding rows_below
  length_rows k i = go (ltb (suc i) k)
    where
      go : (b : Bool) → length (cond b (legs_row T q (suc i)) (replicate 40 mark)) ≡ 40
      go true = length_row T q (suc i)
      go false = length-replicate 40 mark

  length_below : (k : ℕ) → length (legs_below k) ≡ 320
  unfolding legs_below
  length_below k = length-pieces 8 (rows_below k) 40 (λ i _. length_rows k i)

  row_done : (k i : ℕ) → suc i < k → rows_below k i ≡ legs_row T q (suc i)
  unfolding rows_below
  row_done k i l = rw (lt-ltb (suc i) k l)

  row_open : (k i : ℕ) → k ≤ suc i → rows_below k i ≡ replicate 40 mark
  unfolding rows_below
  row_open k i l = rw (le-ltb (suc i) k l)

  row_no_entry : (k : ℕ) → is_entry T q k ≡ false → legs_row T q k ≡ replicate 40 mark
  unfolding legs_row
  row_no_entry k e = rw (and_none (leb k q.limit) (is_entry T q k) e)

  row_past : (k : ℕ) → q.limit < k → legs_row T q k ≡ replicate 40 mark
  unfolding legs_row
  row_past k l = rw (lt-leb k q.limit l)

  row_entry : (k : ℕ) → k ≤ q.limit → is_entry T q k ≡ true → legs_row T q k ≡ tab 40 (λ i. get_or (leg_numbers (legs_of T q k q.target)) i mark)
  unfolding legs_row
  row_entry k l e = rw (le-leb k q.limit l, e)

  -- a row that is not the new one stands as it was
  row_other : (k i : ℕ) → suc i ≢ k → rows_below k i ≡ rows_below (k + 1) i
  row_other k i ne =
      by_lt (suc i) k
      (λ l. row_done k i l ∙ sym (row_done (k + 1) i (omega arith)))
      (λ l. row_open k i l ∙ sym (row_open (k + 1) i (omega arith)))

  below_start : legs_below 0 ≡ replicate 320 mark
  unfolding legs_below
  below_start = pieces_same 8 (rows_below 0) (λ _. replicate 40 mark) (λ i _. row_open 0 i (omega arith)) ∙ (unfold pieces in refl)

  below_skip : (k : ℕ) → is_entry T q k ≡ false → legs_below k ≡ legs_below (k + 1)
  unfolding legs_below
  below_skip k e = pieces_same 8 (rows_below k) (rows_below (k + 1)) (λ i _. one i)
    where
      one : (i : ℕ) → rows_below k i ≡ rows_below (k + 1) i
      one i =
          by_lt (suc i) k
          (λ l. row_other k i (omega arith))
          (λ l. by_lt k (suc i)
          (λ m. row_other k i (omega arith))
          (λ m. let z : k ≡ suc i = omega arith in
          row_open k i l ∙ sym (row_done (k + 1) i (omega arith) ∙ ap (legs_row T q) (sym z) ∙ row_no_entry k e)))

  below_end : (k : ℕ) → k ≡ q.limit + 1 → legs_below k ≡ legs_table T q
  unfolding legs_below legs_table
  below_end k e =
      pieces_same 8 (rows_below k) (λ i. legs_row T q (suc i))
      (λ i _. by_lt (suc i) k (λ l. row_done k i l) (λ l. row_open k i l ∙ sym (row_past (suc i) (omega arith))))

  no_numbers : leg_numbers (legs_of T q 0 q.target) ≡ []
  unfolding legs_of leg_numbers
  no_numbers = refl

  -- row k - 1 written
  below_take : (k : ℕ) (d vs : List ℕ) → k ≤ q.limit → k ≤ 8 → is_entry T q k ≡ true → vs ≡ leg_numbers (legs_of T q k q.target) → length vs ≤ 40
      → sets (over (legs_below k) d) (k * 40 - 40) vs ≡ over (legs_below (k + 1)) d
  unfolding legs_below
  below_take zero d vs l m e n fits =
      ap (λ (xs : List ℕ). sets (over (pieces 8 (rows_below 0)) d) (0 * 40 - 40) xs) (n ∙ no_numbers)
      ∙ ap (λ (xs : List ℕ). over xs d) (pieces_same 8 (rows_below 0) (rows_below 1) (λ i _. row_other 0 i (omega arith)))
  below_take (suc a) d vs l m e n fits =
      over_sets_piece 8 (rows_below (suc a)) (rows_below (suc a + 1)) 40 a (suc a * 40 - 40) vs d (length_rows (suc a)) (length_rows (suc a + 1)) (omega arith) (omega arith) fits
      (λ i ne. row_other (suc a) i (omega arith))
      (ap (λ (xs : List ℕ). sets xs 0 vs) (row_open (suc a) a (le_refl (suc a)))
      ∙ sets_marks 40 vs fits
      ∙ ap (λ (xs : List ℕ). tab 40 (λ i. get_or xs i mark)) n
      ∙ sym (row_done (suc a + 1) a (omega arith) ∙ row_entry (suc a) l e))

-- ---- the loop

-- the rows below k are read back
pub record Listing (T : Tables) (q : Question) (labels legs₀ legs : List ℕ) (listed : Listed) (best k : ℕ) : Type 0 where
  pub room : ℕ
  pub ok : Readable T q labels room
  pub few : k ≤ q.limit + 1
  pub count_is : listed.count ≡ length (entries_below T q k)
  pub entries_are : listed.entries ≡ in_nine (entries_below T q k)
  pub best_is : best ≡ min_below k (at_target T q)
  pub small : listed.count ≤ k
  pub legs_are : legs ≡ over (legs_below T q k) legs₀
  pub size : length legs ≡ length legs₀

pub listing_start : {T : Tables} {q : Question} {labels : List ℕ} {room : ℕ} (d legs₀ : List ℕ) → Readable T q labels room → legs₀ ≡ over (replicate 320 mark) d
    → Listing T q labels legs₀ legs₀ (record { count = 0; entries = replicate 9 zero_entry }) 4294967295 0
unfolding entries_below min_below
listing_start {T} {q} {labels} {room} d legs₀ ok e = record {
  room = room;
  ok = ok;
  few = omega arith;
  count_is = refl;
  entries_are = refl;
  best_is = mark_is;
  small = omega arith;
  legs_are =
      e
      ∙ sym (over-over (replicate 320 mark) (replicate 320 mark) d (le_refl _))
      ∙ ap₂ {C = List ℕ} (λ (xs ys : List ℕ). over xs ys) (sym (below_start T q)) (sym e);
  size = refl;
}

module _ {T : Tables} {q : Question} {labels legs₀ legs : List ℕ} {listed : Listed} {best k : ℕ} (f : Listing T q labels legs₀ legs listed best k) where
  limit≤ : q.limit ≤ 8
  limit≤ = (good_of T q f.ok.good).limit≤

  module _ (l : k ≤ q.limit) where
    pub listing_cell : k * 256 + q.target < length labels
    listing_cell =
        let t = (good_of T q f.ok.good).asked.target< in
        omega (arith, limit≤, labels_room T q labels f.ok, f.ok.fit.sound.stops≤)

    pub listing_few : k ≤ 8
    listing_few = omega (arith, limit≤)

    pub listing_place : listed.count < 9
    listing_place = let a = f.small in omega (arith, limit≤)

    module _ {arrival : ℕ} (at : arrival ≡ get_or labels (k * 256 + q.target) 0) where
      arrival_is : arrival ≡ at_target T q k
      arrival_is = at ∙ label_at T q labels f.ok k q.target l (good_of T q f.ok.good).asked.target<

      module _ (earlier : arrival < best) where
        is_entry_lem : is_entry T q k ≡ true
        is_entry_lem = is_listed T q k arrival_is f.best_is earlier

        pub listing_traceable : Traceable T labels (length legs) k q.target
        listing_traceable = record {
          fit = f.ok.fit;
          labels_room = labels_room T q labels f.ok;
          legs_room = omega (arith, ap length f.legs_are ∙ length-append (legs_below T q k) _, length_below T q k);
          few = listing_few;
          rides = λ j lj. rides_after T q labels f.ok j (omega arith);
          leads = leads_of T q labels f.ok k q.target l (entry_gained T q k is_entry_lem);
        }

        pub listing_take : {legs' : List ℕ} {listed' : Listed} → legs' ≡ sets legs (k * 40 - 40) (leg_numbers (legs_in T labels k q.target)) → listed' ≡ listed_also listed k arrival
            → Listing T q labels legs₀ legs' listed' arrival (k + 1)
        listing_take {legs'} {listed'} e also =
            let gained = entry_gained T q k is_entry_lem in
            let same = legs_same T q labels f.ok k q.target l gained in
            let counted : listed.count + 1 ≡ length (entries_below T q (k + 1)) = rw (entries_take T q k is_entry_lem, length-append, f.count_is) in
            let place : length (entries_below T q k) < 9 = omega (arith, f.count_is, listing_place) in
            record {
              room = f.room;
              ok = f.ok;
              few = omega arith;
              count_is = ap (λ (z : Listed). z.count) also ∙ counted;
              entries_are =
                  ap (λ (z : Listed). z.entries) also
                  ∙ ap₂ {C = List Entry} (λ (es : List Entry) (n : ℕ). set es n (record { rides = k; arrival = arrival })) f.entries_are f.count_is
                  ∙ ap (λ (a : ℕ). set (in_nine (entries_below T q k)) (length (entries_below T q k)) (record { rides = k; arrival = a })) arrival_is
                  ∙ nine_more (entries_below T q k) (entry_of T q k) place
                  ∙ ap in_nine (sym (entries_take T q k is_entry_lem));
              best_is = omega (arith, min_below_next k (at_target T q), f.best_is, arrival_is);
              small = let n = ap (λ (z : Listed). z.count) also in omega (arith, f.small);
              legs_are =
                  e
                  ∙ ap₂ {C = List ℕ} (λ (xs ys : List ℕ). sets xs (k * 40 - 40) ys) f.legs_are (ap leg_numbers same)
                  ∙ below_take T q k legs₀ (leg_numbers (legs_of T q k q.target)) l listing_few is_entry_lem refl (legs_fit T q labels f.ok k q.target l gained);
              size = ap length e ∙ length-sets legs (k * 40 - 40) (leg_numbers (legs_in T labels k q.target)) ∙ f.size;
            }

      pub listing_skip : best ≤ arrival → Listing T q labels legs₀ legs listed best (k + 1)
      listing_skip later =
          let none_here = not_listed T q k arrival_is f.best_is later in
          let e = entries_skip T q k none_here in
          record {
            room = f.room;
            ok = f.ok;
            few = omega arith;
            count_is = rw e f.count_is;
            entries_are = rw e f.entries_are;
            best_is = omega (arith, min_below_next k (at_target T q), f.best_is, arrival_is);
            small = omega (arith, f.small);
            legs_are = f.legs_are ∙ ap (λ (xs : List ℕ). over xs legs₀) (below_skip T q k none_here);
            size = f.size;
          }

  pub listing_end : (d : List ℕ) → legs₀ ≡ over (replicate 320 mark) d → q.limit < k → ReadBack T q d legs listed.count listed.entries
  unfolding entries_of
  listing_end d e l =
      let z : k ≡ q.limit + 1 = let a = f.few in omega arith in
      let same : entries_below T q k ≡ entries_below T q (suc q.limit) = ap (entries_below T q) (omega arith) in
      record {
        count_is = f.count_is ∙ ap length same;
        entries_are = f.entries_are ∙ ap in_nine same;
        legs_are =
            f.legs_are
            ∙ ap₂ {C = List ℕ} (λ (xs ys : List ℕ). over xs ys) (below_end T q k z) e
            ∙ over-over (legs_table T q) (replicate 320 mark) d (omega (arith, length_legs T q, length-replicate 320 mark));
      }
