-- What `ride` keeps, route by route.
use mathlib.Core.Path.{◌≡◌, refl, sym, ap, ◌∙◌}
use mathlib.Core.List.{List}
use Prim.Native.Nat.{ℕ, zero, suc, ◌+◌, ◌-◌, ◌*◌, ◌≤◌, ◌<◌}
use native.Mathlib.Nat.{suc-mul}
use native.Mathlib.Omega.{arith}
use lib.ListN.{length, get_or}
use Rattle.laws.specs.Below.{mark, min_below, sum_below}
use Rattle.laws.specs.Lists.{lower_by}
use Rattle.laws.proofs.Below.{min_below_next, sum_below_next}
use Rattle.laws.proofs.Lists.{length-lower_by, lower_by_none, lower_by_same, lower_by_twice}
use Rattle.paper.specs.Timetable.{Tables, Route, route_of}
use Rattle.paper.specs.Rows.{ride_on}
use Rattle.paper.specs.Work.{look_cost}
use Rattle.extents.specs.Extent.{extent_of}
use Rattle.extents.specs.declared.Extent.{Extent}
use Rattle.scan.specs.Look.{route_at, Scannable, Looked, Standing, ride_below, looks_below, Rideable}
use Rattle.paper.proofs.WorkLimit.{looks_le as looks-most}

pub record Riding (T : Tables) (row reach₀ reach : List ℕ) (work r : ℕ) : Type 0 where
  pub below : r ≤ T.routes
  pub reach_is : reach ≡ lower_by (ride_below T r row) reach₀
  pub work_is : work ≡ looks_below T r row

-- a look costs at most (n - 1) + m
look_le : (R : Route) (row : List ℕ) {a b : ℕ} → Scannable R a b → look_cost R row ≤ 576
unfolding look_cost
look_le R row pre = omega (arith, looks-most R row (R.n - 1), pre.few_stops, pre.few_trips)

pub sum_most : (k : ℕ) (f : ℕ → ℕ) (most : ℕ) → ((i : ℕ) → i < k → f i ≤ most) → sum_below k f ≤ k * most
unfolding sum_below
sum_most zero f most h = omega arith
sum_most (suc k) f most h =
    let r = sum_most k f most (λ i l. h i (omega arith)) in
    let s = h k (omega arith) in
    omega (arith, suc-mul k most)

module _ (T : Tables) (row reach₀ : List ℕ) where
  pub riding_start : ((s : ℕ) → s < length reach₀ → get_or reach₀ s 0 ≤ mark) → Riding T row reach₀ reach₀ 0 0
  unfolding ride_below looks_below min_below sum_below
  riding_start small = record { below = omega arith; reach_is = lower_by_none (ride_below T 0 row) reach₀ 0 (λ s l. refl) small; work_is = refl }

  module _ (pre : Rideable T (length row) (length reach₀)) where
    pub looks_le : (r : ℕ) → r ≤ T.routes → looks_below T r row ≤ r * 576
    unfolding looks_below
    looks_le r h = sum_most r (λ r. look_cost (route_of T r) row) 576 (λ i l. unfold route_of in look_le (route_of T i) row (pre.standing i (omega arith)).scannable)

    module _ {reach : List ℕ} {work r : ℕ} (ri : Riding T row reach₀ reach work r) where
      pub reach_long : length reach ≡ length reach₀
      reach_long = ap length ri.reach_is ∙ length-lower_by (ride_below T r row) reach₀

      pub stands : {x : Extent} → r < T.routes → x ≡ extent_of T.t1 r → Standing x T.t2 T.t3 T.t4 (length row) (length reach)
      stands h e = rw (e, reach_long) (pre.standing r h)

      module _ {reach' : List ℕ} {w : ℕ} {x : Extent} (h : r < T.routes) (e : x ≡ extent_of T.t1 r) (looked : Looked (route_at x T.t2 T.t3 T.t4) row reach reach' w) where
        l : Looked (route_of T r) row reach reach' w
        unfolding route_of
        l = rw e at looked

        work_next : work + w ≡ looks_below T (r + 1) row
        unfolding looks_below
        work_next = omega (arith, l.work_is, ri.work_is, sum_below_next r (λ r. look_cost (route_of T r) row))

        pub work_fits : work + w ≤ 36864
        work_fits = omega (arith, work_next, looks_le (r + 1) (omega arith), pre.few)

        reach_next : reach' ≡ lower_by (ride_below T (r + 1) row) reach₀
        unfolding ride_below
        reach_next =
            l.reach_is ∙ ap (lower_by (ride_on (route_of T r) row)) ri.reach_is
            ∙ lower_by_twice (ride_below T r row) (ride_on (route_of T r) row) reach₀
            ∙ lower_by_same _ (ride_below T (r + 1) row) reach₀ (λ s o. sym (min_below_next r (λ r. ride_on (route_of T r) row s)))

        pub riding_step : Riding T row reach₀ reach' (work + w) (r + 1)
        riding_step = record { below = omega arith; reach_is = reach_next; work_is = work_next }
