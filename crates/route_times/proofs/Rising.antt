-- 8 on one route: its times rise within each trip, so that the trip's last departure bounds them all.
use mathlib.Core.Path.{◌≡◌, refl, sym, ap, ◌∙◌}
use mathlib.Core.Bool.{Bool, not, ◌||◌}
use Prim.Native.Nat.{ℕ, zero, suc, ◌+◌, ◌*◌, ◌-◌, ◌≤◌, ◌<◌}
use native.Mathlib.Nat.{le_refl, mul_comm, add-mul, mul-one}
use native.Mathlib.Numerals.{add-one}
use native.Mathlib.Omega.{arith}
use lib.Dec.{eqb, ltb}
use lib.ListN.{get_or, take, length-take}
use borrow.Author.Tests.{ltb-false, eqb-true, not-false}
use Rattle.std.proofs.Common.{get_or-take}
use Rattle.std.proofs.Math.Nat.{mul-le-mul_right}
use Rattle.laws.specs.Below.{sum_below}
use Rattle.laws.proofs.Below.{sum_below_at, sum_below_rows, sum_below_same}
use Rattle.laws.proofs.Tests.{by_test, by_lt, cell_in}
use Rattle.laws.proofs.Checking.{or_none}
use Rattle.paper.specs.Timetable.{Route}
use Rattle.paper.specs.Rules.{EventTimes}
use Rattle.route_times.specs.Route.{InRoute}
use Rattle.route_times.specs.Folds.{EndsRight, EndsTold, fall_at, Steps, TimesTold}
use Rattle.route_times.proofs.Folds.{Stands, event_in, all_events, ordered, in_order}

module _ (R : Route) where
  abbrev arrive : ℕ → ℕ
  arrive e = get_or R.arrivals e 0

  abbrev depart : ℕ → ℕ
  depart e = get_or R.departures e 0

  -- ---- the count of falls

  pub fall≤ : (e : ℕ) → fall_at R e ≤ 1
  unfolding fall_at
  fall≤ e = by_test (ltb (arrive (e + 1)) (depart e)) (λ t. rw t (le_refl 1)) (λ t. rw t (omega arith))

  no_fall : (e : ℕ) → fall_at R e ≤ 0 → depart e ≤ arrive (e + 1)
  unfolding fall_at
  no_fall e h =
      by_test (ltb (arrive (e + 1)) (depart e))
      (λ t. let z : 1 ≤ 0 = rw t at h in absurd (omega arith))
      (ltb-false (arrive (e + 1)) (depart e))

  -- the event behind the last one of run k stands in the tables
  pub behind : {step runs : ℕ} (k : ℕ) → Steps R step runs → k < runs → Stands R (k * step + (step - 1) + 1)
  behind {step} {runs} k h l =
      let s = h.some in
      let b = h.within in
      let m : (k + 1) * step ≤ runs * step = mul-le-mul_right step (omega arith) in
      event_in h.route (omega (arith, add-mul k 1 step))

  -- each event but the last, and the last event of each trip but the last
  pub each_event : InRoute R → Steps R 1 (R.n * R.m - 1)
  each_event h =
      let p = h.n≥ in
      let q = h.m≥ in
      let x : 0 * R.n + 0 < R.n * R.m = cell_in R.n R.m 0 0 (omega arith) (omega arith) in
      record { route = h; some = omega arith; within = omega (arith, mul-one (R.n * R.m - 1)) }

  pub each_trip : InRoute R → Steps R R.n (R.m - 1)
  each_trip h =
      let p = h.n≥ in
      record { route = h; some = p; within = omega (arith, all_events R h, mul_comm (R.m - 1) R.n) }

  -- ---- both ends of each trip

  abbrev pub EndsUpto : ℕ → Type 0
  EndsUpto j = (k : ℕ) → k < j → EndsRight R k

  abbrev last : ℕ → ℕ
  last j = j * R.n + (R.n - 1)

  -- ---- all together

  abbrev falls_to : ℕ → ℕ → ℕ
  falls_to step runs = sum_below runs (λ k. fall_at R (k * step + (step - 1)))

  module _ (pre : InRoute R) (halts : (e : ℕ) → e < R.n * R.m → arrive e ≤ depart e) (ends : (j : ℕ) → j < R.m → EndsRight R j)
      (same : falls_to 1 (R.n * R.m - 1) ≡ falls_to R.n (R.m - 1)) where
    -- as many events fall as between trips, so that none falls within a trip
    within : (j i : ℕ) → j < R.m → i + 1 < R.n → depart (j * R.n + i) ≤ arrive (j * R.n + (i + 1))
    within j i l b =
        let p = pre.n≥ in
        let q = pre.m≥ in
        let F : ℕ → ℕ = λ k. sum_below (R.n - 1) (λ i. fall_at R (k * R.n + i)) in
        let z : R.n * R.m - 1 ≡ (R.m - 1) * R.n + (R.n - 1) = omega (arith, all_events R pre, mul_comm (R.m - 1) R.n) in
        let s = sum_below_rows R.n (R.n - 1) (R.m - 1) (fall_at R) (omega arith) in
        let one : falls_to 1 (R.n * R.m - 1) ≡ sum_below (R.n * R.m - 1) (fall_at R) =
        sum_below_same _ _ _ (λ k _. let y : k * 1 + (1 - 1) ≡ k = omega (arith, mul-one k) in rw y refl) in
        let t : sum_below (R.n * R.m - 1) (fall_at R) ≡ sum_below ((R.m - 1) * R.n + (R.n - 1)) (fall_at R) =
        ap (λ (x : ℕ). sum_below x (fall_at R)) z in
        let u = sum_below_at (suc (R.m - 1)) j F (omega arith) in
        let v = sum_below_at (R.n - 1) i (λ i. fall_at R (j * R.n + i)) (omega arith) in
        let w : depart (j * R.n + i) ≤ arrive (j * R.n + i + 1) = no_fall (j * R.n + i) (omega arith) in
        let y : j * R.n + i + 1 ≡ j * R.n + (i + 1) = omega arith in
        rw y at w

    risen : (j k i : ℕ) → j < R.m → k < R.n → i ≤ k → depart (j * R.n + i) ≤ depart (j * R.n + k)
    risen j zero i l b c = let z : i ≡ zero = omega arith in rw z (le_refl _)
    risen j (suc k) i l b c =
        by_lt i (suc k)
        (λ d.
        let r = risen j k i l (omega arith) (omega arith) in
        let w : depart (j * R.n + k) ≤ arrive (j * R.n + suc k) = rw (add-one k) at (within j k l (omega (arith, add-one k))) in
        let o = halts (j * R.n + suc k) (cell_in R.n R.m j (suc k) l b) in
        omega arith)
        (λ d. let z : i ≡ suc k = omega arith in rw z (le_refl _))

    event_right : (j i : ℕ) → j < R.m → i < R.n → EventTimes R j i
    event_right j i l b =
        let p = pre.n≥ in
        let x = ends j l in
        let o = halts (j * R.n + i) (cell_in R.n R.m j i l b) in
        let r = risen j (R.n - 1) i l (omega arith) (omega arith) in
        let t = x.below in
        record {
          arrive< = omega arith;
          depart< = omega arith;
          in_order = o;
          at_first = λ z. let y : j * R.n + i ≡ j * R.n = omega arith in rw y x.at_first;
          at_last = λ z. let y : i ≡ R.n - 1 = omega arith in rw y x.at_last;
          next = within j i l;
        }

  pub times_told : {ends ok : Bool} {all between : ℕ} → InRoute R → EndsTold R ends → ok ≡ ordered (take (R.n * R.m) R.arrivals) (take (R.n * R.m) R.departures) →
      all ≡ falls_to 1 (R.n * R.m - 1) → between ≡ falls_to R.n (R.m - 1) → TimesTold R (ends || not ok || not (eqb all between))
  times_told {ends} {ok} {all} {between} pre e h a b =
      record {
        right = λ f j i.
            let x = or_none _ (not (eqb all between)) f in
            let y = or_none ends (not ok) x.0 in
            let z : all ≡ between = eqb-true all between (not-false _ x.1) in
            event_right pre
            (λ k l. let o = in_order (take (R.n * R.m) R.arrivals) (take (R.n * R.m) R.departures) (sym h ∙ not-false _ y.1) k
            (omega (arith, length-take (R.n * R.m) R.arrivals, pre.arrivals≥)) (omega (arith, length-take (R.n * R.m) R.departures, pre.departures≥)) in
            rw (get_or-take, get_or-take) at o)
            (e.right y.0) (sym a ∙ z ∙ b) j i;
      }
