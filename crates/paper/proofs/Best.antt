-- Entries are the best journeys, their legs run, and no way is said exactly when there is none.
use mathlib.Core.Path.{◌≡◌, refl, sym, ap, ◌∙◌, subst}
use mathlib.Core.Bool.{true}
use mathlib.Core.List.{List}
use Prim.Native.Nat.{ℕ, zero, suc, ◌+◌, ◌*◌, ◌-◌, ◌≤◌, ◌<◌}
use native.Mathlib.Nat.{le_antisymm}
use native.Mathlib.Decide.{ℕ_discrete}
use native.Mathlib.Omega.{arith}
use lib.ListN.{length, get_or, replicate, get_or-append}
use lib.Seq.{ext_get_or}
use Rattle.laws.specs.Below.{mark}
use Rattle.laws.specs.Lists.{part, over}
use Rattle.laws.proofs.Lists.{get_d_part, length-part_of, get_d_over, length_over}
use Rattle.paper.specs.Rules.{refusal}
use Rattle.paper.specs.Timetable.{Tables}
use Rattle.paper.specs.Journey.{Journey}
use Rattle.paper.specs.Rows.{label, row_of, Earliest}
use Rattle.paper.specs.Work.{work_of}
use Rattle.paper.specs.Tie.{is_entry, entry_of, entries_of, legs_of}
use Rattle.paper.specs.Reply.{zero_entry, in_nine, answered, refused, labels_table, legs_table, leg_numbers}
use Rattle.paper.specs.Demands.{Best, LegsRun, Demand2}
use Rattle.paper.specs.declared.Question.{Question}
use Rattle.paper.specs.declared.Entry.{Entry}
use Rattle.paper.proofs.Usable.{Usable, Asked}
use Rattle.paper.proofs.Earliest.{earliest, row_le, row_journey, journey_arrives}
use Rattle.paper.proofs.Legs.{legs_journey, legs_by_rule, legs_length}
use Rattle.paper.proofs.Entries.{entry_gained, entry_of_lem, entry_journeys, some_entry}
use Rattle.paper.proofs.Listing.{entry_listed, listed_entry, entries_rise}
use Rattle.paper.proofs.Answers.{length_labels, labels_at, length_legs, legs_at_lem, length_numbers}

module _ (T : Tables) (q : Question) (us : Usable T) (ask : Asked T q) where
  -- an entry is a best journey, at the row's label
  entry_best : (k : ℕ) → k ≤ q.limit → is_entry T q k ≡ true → Best T q k (label (row_of T q k) q.target)
  entry_best k l e =
      let x = entry_journeys T q us ask k e in
      record { within = l; journey = x.0; none_earlier = (earliest T q us ask k q.target ask.target<).none_earlier; fewer_later = x.1 }

  -- and a best journey is an entry, at the row's label
  best_label : (k v : ℕ) → Best T q k v → v ≡ label (row_of T q k) q.target
  best_label k v b =
      let a : label (row_of T q k) q.target ≤ v = row_le T q us ask b.journey ask.target< in
      let m : v < mark = journey_arrives T q us ask b.journey in
      let x = row_journey T q us ask k q.target (λ z. omega (arith, a, m, z)) in
      le_antisymm (b.none_earlier x.0 (label (row_of T q k) q.target) x.1 x.2) a

  best_entry : (k v : ℕ) → Best T q k v → is_entry T q k ≡ true
  best_entry k v b =
      let e = best_label k v b in
      let m : v < mark = journey_arrives T q us ask b.journey in
      entry_of_lem T q us ask k (λ z. omega (arith, e, m, z)) (λ j l. go j l e m (ℕ_discrete (label (row_of T q j) q.target) mark))
    where
      go : (j : ℕ) → j < k → v ≡ label (row_of T q k) q.target → v < mark → Dec (label (row_of T q j) q.target ≡ mark) →
          label (row_of T q k) q.target < label (row_of T q j) q.target
      go j l e m (yes z) = omega arith
      go j l e m (no z) =
          let x = row_journey T q us ask j q.target z in
          let g : x.0 ≤ j = x.1 in
          let f = b.fewer_later x.0 (label (row_of T q j) q.target) (omega arith) x.2 in
          omega arith

  -- what the list of entries lists
  listed_best : (i : ℕ) {k v : ℕ} → i < length (entries_of T q) → get_or (entries_of T q) i zero_entry ≡ record { rides = k; arrival = v } → Best T q k v × (is_entry T q k ≡ true)
  unfolding entries_of
  listed_best i {k} {v} l e =
      let x = listed_entry T q (suc q.limit) i l in
      let h : x.k < suc q.limit = x.k< in
      let same : entry_of T q x.k ≡ record { rides = k; arrival = v } = sym x.is ∙ e in
      let ek : x.k ≡ k = ap (λ (a : Entry). a.rides) same in
      let ev : label (row_of T q x.k) q.target ≡ v = ap (λ (a : Entry). a.arrival) same in
      (subst (λ (n : ℕ). Best T q n v) ek (subst (Best T q x.k) ev (entry_best x.k (omega arith) x.entry)), subst (λ (n : ℕ). is_entry T q n ≡ true) ek x.entry)

  best_listed : (k v : ℕ) → Best T q k v → (i : ℕ) × (i < length (entries_of T q)) × (get_or (entries_of T q) i zero_entry ≡ record { rides = k; arrival = v })
  unfolding entries_of
  best_listed k v b =
      let w = b.within in
      let x = entry_listed T q (suc q.limit) k (omega arith) (best_entry k v b) in
      (x.place, x.place<, x.is ∙ ap (λ (a : ℕ). let e : Entry = record { rides = k; arrival = a } in e) (sym (best_label k v b)))

  -- there is no entry exactly when no journey within the limit reaches the target
  no_entry : length (entries_of T q) ≡ 0 → (k u : ℕ) → k ≤ q.limit → Journey T q k q.target u → ⊥
  no_entry e k u l j =
      let a : label (row_of T q k) q.target ≤ u = row_le T q us ask j ask.target< in
      let m : u < mark = journey_arrives T q us ask j in
      let x = some_entry T q us ask k (λ z. omega (arith, a, m, z)) in
      let h : x.0 ≤ k = x.1 in
      let y = best_listed x.0 (label (row_of T q x.0) q.target) (entry_best x.0 (omega arith) x.2) in
      let n : y.0 < length (entries_of T q) = y.1 in
      omega arith

  an_entry : (length (entries_of T q) ≡ 0 → ⊥) → (k : ℕ) × (k ≤ q.limit) × Journey T q k q.target (label (row_of T q k) q.target)
  unfolding entries_of
  an_entry h =
      let x = listed_entry T q (suc q.limit) 0 (omega arith) in
      let l : x.k < suc q.limit = x.k< in
      (x.k, omega arith, (entry_best x.k (omega arith) x.entry).journey)

  -- the legs of an entry stand in its row
  row_held : (legs : List ℕ) → 320 ≤ length legs → q.limit ≤ 8 → (k : ℕ) → k ≤ q.limit → is_entry T q k ≡ true →
      part ((k - 1) * 40) ((k - 1) * 40 + 5 * k) (over (legs_table T q) legs) ≡ leg_numbers (legs_of T q k q.target)
  row_held legs long l8 zero l e = unfold legs_of leg_numbers in refl
  row_held legs long l8 (suc k) l e =
      let d : List ℕ = over (legs_table T q) legs in
      let gs : List ℕ = leg_numbers (legs_of T q (suc k) q.target) in
      let n : length gs ≡ 5 * suc k = length_numbers (legs_of T q (suc k) q.target) ∙ ap (λ (x : ℕ). 5 * x) (legs_length T q us ask (suc k) q.target (entry_gained T q (suc k) e)) in
      let t = length_legs T q in
      let s : length d ≡ length legs = length_over (legs_table T q) legs (omega arith) in
      let z : suc k - 1 ≡ k = omega arith in
      let p : length (part (k * 40) (k * 40 + 5 * suc k) d) ≡ 5 * suc k = length-part_of d (k * 40) (5 * suc k) (omega arith) in
      rw z
      (ext_get_or mark (part (k * 40) (k * 40 + 5 * suc k) d) gs (p ∙ sym n)
      (λ i h. let h' : i < 5 * suc k = omega arith in
      get_d_part d (k * 40) (k * 40 + 5 * suc k) i mark (omega arith)
      ∙ get_d_over (legs_table T q) legs (k * 40 + i) mark (omega arith)
      ∙ legs_at_lem T q k i mark l (omega arith) (omega arith) e))

  legs_run : (legs : List ℕ) → 320 ≤ length legs → q.limit ≤ 8 → (k v : ℕ) → Best T q k v → is_entry T q k ≡ true → LegsRun T q (over (legs_table T q) legs) k v
  legs_run legs long l8 k v b e =
      let g = entry_gained T q k e in
      let x = legs_journey T q us ask k q.target g in
      let r : LegsRun T q (over (legs_table T q) legs) k (label (row_of T q k) q.target) =
      record {
        journey = x.0;
        by_rule = rw x.1 (legs_by_rule T q us ask k q.target g);
        held = row_held legs long l8 k b.within e ∙ ap leg_numbers (sym x.1);
      } in
      rw (best_label k v b) r

  -- row k's label of stop s is the earliest arrival there
  label_right : (labels : List ℕ) → T.stops ≤ 256 → q.limit ≤ 8 → (k s : ℕ) → k ≤ q.limit → s < T.stops →
      Earliest T q k s (get_or (over (labels_table T q) labels) (k * 256 + s) 0)
  label_right labels s256 l8 k s l h =
      let n = length_labels T q in
      let e : get_or (over (labels_table T q) labels) (k * 256 + s) 0 ≡ label (row_of T q k) s =
      get_d_over (labels_table T q) labels (k * 256 + s) 0 (omega arith) ∙ labels_at T q k s l (omega arith) (omega arith) in
      rw e (earliest T q us ask k s h)

  -- the reply where the work is within the budget and there is no entry
  pub no_way_reply : (labels legs : List ℕ) → T.stops ≤ 256 → q.limit ≤ 8 → 2304 ≤ length labels → length (entries_of T q) ≡ 0 →
      Demand2 T q (record { answer = refused (refusal 14 (work_of T q)); labels = over (labels_table T q) labels; legs = over (replicate 320 mark) legs })
  no_way_reply labels legs s256 l8 long none' =
      record {
        earliest = label_right labels s256 l8;
        entries = λ k v. (
          (λ x. let h : x.place < 0 = x.place< in absurd (omega arith)),
          (λ b. let y = best_listed k v b in let h : y.0 < length (entries_of T q) = y.1 in absurd (omega arith)),
        );
        rising = λ i j l h. let h' : j < 0 = h in absurd (omega arith);
        legs_run = λ k v x. let h : x.place < 0 = x.place< in absurd (omega arith);
        no_way = ((λ e. no_entry none'), (λ h. refl));
      }

  -- and where there is one
  pub way_reply : (labels legs : List ℕ) → T.stops ≤ 256 → q.limit ≤ 8 → 320 ≤ length legs → (length (entries_of T q) ≡ 0 → ⊥) →
      Demand2 T q (record { answer = answered (work_of T q) (entries_of T q); labels = over (labels_table T q) labels; legs = over (legs_table T q) legs })
  way_reply labels legs s256 l8 long some' =
      let es : List Entry = entries_of T q in
      let at : (i : ℕ) → i < length es → get_or (in_nine es) i zero_entry ≡ get_or es i zero_entry =
      λ i l. get_or-append es (replicate (9 - length es) zero_entry) zero_entry i l in
      record {
        earliest = label_right labels s256 l8;
        entries = λ k v. (
          (λ x. (listed_best x.place x.place< (sym (at x.place x.place<) ∙ x.is)).0),
          (λ b. let y = best_listed k v b in record { place = y.0; place< = y.1; is = at y.0 y.1 ∙ y.2 }),
        );
        rising = λ i j l h.
            let hi : i < length es = omega arith in
            rw (at i hi, at j h) (unfold entries_of in (entries_rise T q (suc q.limit) i j l h));
        legs_run = λ k v x.
            let y = listed_best x.place x.place< (sym (at x.place x.place<) ∙ x.is) in
            legs_run legs long l8 k v y.0 y.1;
        no_way = (
          (λ e. let z : ◌≡◌ {A = ℕ} 0 1 = cc in absurd (omega arith)),
          (λ h. let x = an_entry some' in absurd (h x.0 (label (row_of T q x.0) q.target) x.1 x.2)),
        );
      }
