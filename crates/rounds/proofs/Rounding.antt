-- One round: what the rides, the walks and the row make together is the next row, with the round's work.
use mathlib.Core.Path.{◌≡◌, refl, sym, ap, ◌∙◌}
use mathlib.Core.Bool.{Bool}
use mathlib.Core.List.{List}
use Prim.Native.Nat.{ℕ, ◌+◌, ◌*◌, ◌≤◌, ◌<◌, min}
use native.Mathlib.Omega.{arith}
use borrow.Author.Tests.{lt-ltb, le-ltb}
use lib.Dec.{eqb, ltb}
use lib.ListN.{length, get_or, replicate, length-replicate, get_or-replicate}
use Rattle.laws.specs.Below.{mark, only}
use Rattle.laws.specs.Lists.{lower_by}
use Rattle.laws.proofs.Tests.{by_lt}
use Rattle.laws.proofs.Below.{min_below-mark, min_below_same, any_below_same}
use Rattle.laws.proofs.Lists.{length-part_of, get_d_part, written_same, length-lower_by, get_d-lower_by}
use Rattle.paper.specs.Rules.{Fit}
use Rattle.paper.specs.Timetable.{Tables, route_of, walk_from, walk_to, walk_seconds}
use Rattle.paper.specs.Rows.{label, row_in, ride_on, ride_to, rides_from, walk_in, next_row}
use Rattle.paper.specs.Work.{round_cost, improves}
use Rattle.paper.proofs.Steps.{label_read, label_rides, label_next}
use Rattle.scan.specs.Look.{ride_below, looks_below, Ridden}
use Rattle.scan.specs.Walk.{walk_below, Walked}
use Rattle.rounds.specs.Round.{brought, bettered, RowWritten, RoundAsked, RoundDone}
use Rattle.scan.proofs.Fitting.{rideable}
use Rattle.scan.proofs.Riding.{looks_le}

-- what is lowered starts as marks
abbrev pub marks : List ℕ
marks = replicate 256 mark

lowered_at : (f : ℕ → ℕ) (s : ℕ) → f s ≤ mark → s < 256 → get_or (lower_by f marks) s 0 ≡ f s
lowered_at f s most h =
    omega (arith, get_d-lower_by f marks s 0 (rw length-replicate h), get_or-replicate 256 s mark 0 h)

lowered_long : (f : ℕ → ℕ) → length (lower_by f marks) ≡ 256
lowered_long f = length-lower_by f marks ∙ length-replicate 256 mark

pub reach_size : {T : Tables} {row reach : List ℕ} {work : ℕ} → Ridden T row marks reach work → length reach ≡ 256
reach_size {T} {row} ri = ap length ri.reach_is ∙ lowered_long (ride_below T T.routes row)

less_same : (b o : ℕ) → ltb b o ≡ ltb (min o b) o
less_same b o =
    by_lt b o
    (λ h. rw (lt-ltb b o h, lt-ltb (min o b) o (omega arith)))
    (λ h. rw (le-ltb b o h, le-ltb (min o b) o (omega arith)))

-- the work of a round is small
pub cost_few : (T : Tables) → Fit T → (row : List ℕ) → length row ≡ T.stops → round_cost T row ≤ 40000
unfolding round_cost looks_below
cost_few T fit row e =
    let pre = rideable T fit (length row) e in
    let h = looks_le T row marks (rw length-replicate pre) T.routes (omega arith) in
    omega (arith, fit.sound.routes≤, fit.sound.walks≤)

module _ (T : Tables) (labels₀ : List ℕ) (k : ℕ) (asked : RoundAsked T labels₀ k) where
  abbrev row : List ℕ
  row = row_in labels₀ k T.stops

  in_labels : k * 256 + T.stops ≤ length labels₀
  in_labels = omega (arith, asked.room, asked.few, asked.fit.sound.stops≤)

  pub row_long : length (row_in labels₀ k T.stops) ≡ T.stops
  row_long = length-part_of labels₀ (k * 256) T.stops in_labels

  row_label : (s : ℕ) → s < T.stops → get_or labels₀ (k * 256 + s) 0 ≡ label row s
  row_label s h =
      sym (get_d_part labels₀ (k * 256) (k * 256 + T.stops) s 0 (omega arith))
      ∙ sym (label_read (row_in labels₀ k T.stops) s (rw row_long h))

  rides_same : (s : ℕ) → ride_below T T.routes row s ≡ ride_to T row s
  unfolding ride_below ride_to
  rides_same s = refl

  looks_same : looks_below T T.routes row + T.walks ≡ round_cost T row
  unfolding looks_below round_cost
  looks_same = refl

  ride_mark : (s : ℕ) → ride_to T row s ≤ mark
  unfolding ride_to
  ride_mark s = min_below-mark T.routes (λ r. ride_on (route_of T r) row s)

  module _ {reach next : List ℕ} {rides steps : ℕ}
      (ri : Ridden T row marks reach rides)
      (wa : Walked T reach marks next steps) where
    stop_few : (s : ℕ) → s < T.stops → s < 256
    stop_few s h = omega (arith, asked.fit.sound.stops≤)

    reach_at : (s : ℕ) → s < T.stops → get_or reach s 0 ≡ label (rides_from T row) s
    reach_at s h =
        ap (λ (l : List ℕ). get_or l s 0) ri.reach_is
        ∙ lowered_at _ s (rw (rides_same s) (ride_mark s)) (stop_few s h)
        ∙ rides_same s
        ∙ sym (label_rides T row s h)

    reach_label : (s : ℕ) → s < T.stops → label reach s ≡ label (rides_from T row) s
    reach_label s h = label_read reach s (omega (arith, reach_size ri, stop_few s h)) ∙ reach_at s h

    walks_same : (s : ℕ) → walk_below T.t5 T.walks reach s ≡ walk_in T (rides_from T row) s
    unfolding walk_below walk_in
    walks_same s =
        min_below_same T.walks _ _
        (λ w l. ap (λ (x : ℕ). only (eqb (walk_to T w) s) (x + walk_seconds T w)) (reach_label (walk_from T w) (asked.fit.sound.walk w l).from<))

    walk_mark : (s : ℕ) → walk_in T (rides_from T row) s ≤ mark
    unfolding walk_in
    walk_mark s = min_below-mark T.walks (λ w. only (eqb (walk_to T w) s) (label (rides_from T row) (walk_from T w) + walk_seconds T w))

    next_at : (s : ℕ) → s < T.stops → get_or next s 0 ≡ walk_in T (rides_from T row) s
    next_at s h =
        ap (λ (l : List ℕ). get_or l s 0) wa.next_is
        ∙ lowered_at _ s (rw (walks_same s) (walk_mark s)) (stop_few s h)
        ∙ walks_same s

    label_is : (s : ℕ) → s < T.stops → bettered labels₀ k reach next s ≡ label (next_row T row) s
    label_is s h = rw (label_next T row s h, row_label s h, reach_at s h, next_at s h)

    work_is : rides + steps ≡ round_cost T row
    work_is = omega (arith, ri.work_is, wa.work_is, looks_same)

    pub work_few : rides + steps ≤ 40000
    work_few = omega (arith, work_is, cost_few T asked.fit row row_long)

    pub round_done : {labels : List ℕ} {improved : Bool} → RowWritten labels₀ labels k T.stops reach next improved → RoundDone T labels₀ labels k (rides + steps) improved
    unfolding improves
    round_done w =
        record {
          labels_are = w.labels_are ∙ written_same labels₀ (k * 256 + 256) _ _ T.stops label_is;
          work_is = work_is;
          improved_is = w.improved_is ∙ any_below_same T.stops _ _
              (λ s h. less_same (brought reach next s) (get_or labels₀ (k * 256 + s) 0)
              ∙ ap (λ (x : ℕ). ltb x (get_or labels₀ (k * 256 + s) 0)) (label_is s h)
              ∙ ap (λ (x : ℕ). ltb (label (next_row T row) s) x) (row_label s h));
        }
