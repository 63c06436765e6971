-- Folds over the times of a route, two by two: what they tell at the end, and 9 by two of them.
use mathlib.Core.Path.{◌≡◌, sym, ap, ◌∙◌}
use mathlib.Core.Bool.{Bool, true, not, ◌&&◌}
use mathlib.Core.List.{List}
use Prim.Native.Nat.{ℕ, suc, ◌+◌, ◌*◌, ◌-◌, ◌≤◌, ◌<◌}
use native.Mathlib.Nat.{mul-suc, add-mul}
use native.Mathlib.Omega.{arith}
use lib.Dec.{leb}
use lib.ListN.{length, get_or, take, length-take}
use borrow.Author.Tests.{leb-true, not-false}
use Rattle.std.specs.Prelude.{fold, zip}
use Rattle.std.proofs.Common.{get_or-take}
use Rattle.std.proofs.lemmas.Slice.Zip.{length-zip, get_or-zip}
use Rattle.laws.specs.Lists.{part}
use Rattle.laws.proofs.Tests.{cell_in, and_both}
use Rattle.laws.proofs.Folds.{each_passes}
use Rattle.laws.proofs.Lists.{length_part, get_d_part}
use Rattle.paper.specs.Timetable.{Route}
use Rattle.paper.proofs.Places.{time_whole, order_whole}
use Rattle.route_times.specs.declared.Sought.{Sought}
use Rattle.route_times.specs.Route.{event_broken, InRoute}
use Rattle.route_times.specs.Folds.{TimesTold, OrderTold, BrokenTold}

-- n further on stands the next trip's event
pub next_trip : (n j i : ℕ) → j * n + i + n ≡ (j + 1) * n + i
next_trip n j i = omega (arith, add-mul j 1 n)

-- event e stands in the tables
pub record Stands (R : Route) (e : ℕ) : Type 0 where
  pub small : e < 2048
  pub in_arrivals : e < length R.arrivals
  pub in_departures : e < length R.departures

pub event_in : {R : Route} {e : ℕ} → InRoute R → e < R.n * R.m → Stands R e
event_in h l =
    record { small = omega (arith, h.small); in_arrivals = omega (arith, h.arrivals≥); in_departures = omega (arith, h.departures≥) }

-- ---- two lists of times, side by side

module _ (xs ys : List ℕ) where
  -- whether none of the first is after the one beside it
  abbrev pub ordered : Bool
  ordered = fold (λ all (p : ℕ × ℕ). all && leb p.0 p.1) true (zip xs ys)

  pub in_order : ordered ≡ true → (k : ℕ) → k < length xs → k < length ys → get_or xs k 0 ≤ get_or ys k 0
  in_order e k l m =
      let long : k < length (zip xs ys) = omega (arith, length-zip xs ys) in
      let x = each_passes (λ (p : ℕ × ℕ). leb p.0 p.1) true (zip xs ys) e k (0, 0) long in
      leb-true (get_or xs k 0) (get_or ys k 0) (rw (get_or-zip xs ys k (0, 0) l m) at x)

module _ (R : Route) where
  -- ---- 9: each event, and n further on the next trip's event at the same position

  pub all_events : InRoute R → R.n * (R.m - 1) + R.n ≡ R.n * R.m
  all_events h =
      let p = h.m≥ in
      let z : R.m ≡ suc (R.m - 1) = omega arith in
      omega (arith, ap (λ (k : ℕ). R.n * k) z, mul-suc R.n (R.m - 1))

  -- of a table of times, what stands before the last trip, and what stands from the second trip on
  abbrev pub earlier : List ℕ → List ℕ
  earlier times = take (R.n * R.m - R.n) times

  abbrev pub later : List ℕ → List ℕ
  later times = part R.n (R.n * R.m) times

  rises : InRoute R → (times : List ℕ) → R.n * R.m ≤ length times → ordered (earlier times) (later times) ≡ true →
      (j i : ℕ) → j + 1 < R.m → i < R.n → get_or times (j * R.n + i) 0 ≤ get_or times ((j + 1) * R.n + i) 0
  rises h times long e j i l b =
      let at = j * R.n + i in
      let x : at < R.n * (R.m - 1) = cell_in R.n (R.m - 1) j i (omega arith) b in
      let a = all_events h in
      let n : at < length (later times) = omega (arith, length_part times R.n (R.n * R.m) long) in
      let o : at < length (earlier times) = omega (arith, length-take (R.n * R.m - R.n) times, long) in
      let p : get_or (earlier times) at 0 ≡ get_or times at 0 = get_or-take (R.n * R.m - R.n) times at 0 (omega arith) in
      let q : get_or (later times) at 0 ≡ get_or times (R.n + at) 0 = get_d_part times R.n (R.n * R.m) at 0 (omega arith) in
      let z : R.n + at ≡ (j + 1) * R.n + i = omega (arith, next_trip R.n j i) in
      rw (p, q, z) at (in_order (earlier times) (later times) e at o n)

  pub order_told : {arrive depart : Bool} → InRoute R → arrive ≡ ordered (earlier R.arrivals) (later R.arrivals) →
      depart ≡ ordered (earlier R.departures) (later R.departures) → OrderTold R (not (arrive && depart))
  order_told {arrive} {depart} h a d =
      record {
        right = λ f j i l b. let x = and_both arrive depart (not-false _ f) in
            record {
              arrives = rises h R.arrivals h.arrivals≥ (sym a ∙ x.0) j i l b;
              departs = rises h R.departures h.departures≥ (sym d ∙ x.1) j i l b;
            };
      }

  -- ---- the rule that is sought

  module _ {wrong : Bool} where
    pub order_sought : OrderTold R wrong → BrokenTold Sought.Overtake R wrong
    unfolding event_broken
    order_sought t = record { right = λ f j i l p. order_whole R j i (t.right f j i l p) }

    pub times_sought : TimesTold R wrong → BrokenTold Sought.Time R wrong
    unfolding event_broken
    times_sought t = record { right = λ f j i l p. time_whole R j i (t.right f j i (omega arith) p) }
