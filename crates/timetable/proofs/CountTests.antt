-- 5: the counts of a route, and the sums that run over the routes.
use mathlib.Core.Path.{◌≡◌, refl, sym, ◌∙◌}
use mathlib.Core.Bool.{Bool, true, false, not, ◌&&◌}
use Rattle.std.specs.Prelude.{Some, None}
use Prim.Native.Nat.{ℕ, zero, suc, ◌+◌, ◌*◌, ◌≤◌, ◌<◌}
use native.Mathlib.Nat.{le_refl}
use native.Mathlib.Omega.{arith}
use lib.Dec.{eqb, leb}
use Rattle.laws.specs.Below.{sum_below}
use Rattle.laws.proofs.Below.{Passed, passed_none, passed_more, sum_below_next}
use Rattle.paper.specs.Timetable.{Tables, n_of, m_of, positions_to, trips_to, events_to}
use Rattle.paper.specs.Rules.{lowest_of, counted, route_broken}
use Rattle.paper.proofs.Places.{Counted, route_right}
use Rattle.paper.proofs.Lowest.{at_lowest, no_lowest}
use Rattle.timetable.specs.declared.Totals.{Totals}
use Rattle.extents.specs.declared.Extent.{Extent}
use Rattle.extents.specs.Extent.{extent_of}
use Rattle.trips.specs.Needed.{Laid}
use Rattle.timetable.specs.Counts.{totals_of}
use Rattle.timetable.specs.Needed.{Before}

pub counted_if : (n m trips events : ℕ) → (leb 2 n && leb n 64 && (leb 1 m && leb m 512)) ≡ true →
    (leb (trips + m) 512 && leb (events + n * m) 2048) ≡ counted n m trips events
unfolding counted
counted_if n m trips events e = rw e

pub counted_not : (n m trips events : ℕ) → (leb 2 n && leb n 64 && (leb 1 m && leb m 512)) ≡ false → false ≡ counted n m trips events
unfolding counted
counted_not n m trips events e = rw e

-- the routes below r are right, and these are their sums
pub record Summed (T : Tables) (r positions trips events : ℕ) : Type 0 where
  pub upto : r ≤ T.routes
  pub passed : Passed (route_broken T) r
  pub positions_are : positions ≡ positions_to T r
  pub trips_are : trips ≡ trips_to T r
  pub events_are : events ≡ events_to T r
  pub positions≤ : positions ≤ 64 * r
  pub before : Before trips events

module _ (T : Tables) where
  pub summed_start : Summed T 0 0 0 0
  unfolding positions_to trips_to events_to sum_below
  summed_start =
      record {
        upto = omega arith;
        passed = passed_none (route_broken T);
        positions_are = refl;
        trips_are = refl;
        events_are = refl;
        positions≤ = omega arith;
        before = record { trips≤ = omega arith; events≤ = omega arith };
      }

  -- the code's test of a route
  abbrev right : Extent → ℕ → ℕ → Bool → Bool
  right x positions events b = b && eqb x.first positions && eqb x.event events

  module _ (r positions trips events : ℕ) {x : Extent} (h : Summed T r positions trips events) (is : x ≡ extent_of T.t1 r) where
    tested : {b : Bool} → b ≡ counted x.n x.m trips events → not (right x positions events b) ≡ route_broken T r
    unfolding route_broken
    tested e = rw (e, is, h.positions_are, h.trips_are, h.events_are)

    pub route_counts : {b : Bool} → b ≡ counted x.n x.m trips events → not (right x positions events b) ≡ false → Counted x.n x.m trips events
    route_counts e f =
        let y = (route_right T r (sym (tested e) ∙ f)).counts in
        rw (is, h.trips_are, h.events_are) y

    pub summed_next : {b : Bool} → r < T.routes → b ≡ counted x.n x.m trips events → not (right x positions events b) ≡ false →
        Summed T (r + 1) (positions + x.n) (trips + x.m) (events + x.n * x.m)
    unfolding positions_to trips_to events_to
    summed_next l e f =
        let y = route_counts e f in
        record {
          upto = omega arith;
          passed = passed_more (route_broken T) r h.passed (sym (tested e) ∙ f);
          positions_are = rw sum_below_next (rw (h.positions_are, is) refl);
          trips_are = rw sum_below_next (rw (h.trips_are, is) refl);
          events_are = rw sum_below_next (rw (h.events_are, is) refl);
          positions≤ = omega (arith, y.n≤, h.positions≤);
          before = record { trips≤ = y.trips≤; events≤ = y.events≤ };
        }

    pub summed_found : {b : Bool} → r < T.routes → b ≡ counted x.n x.m trips events → not (right x positions events b) ≡ true →
        Some r ≡ lowest_of T.routes (route_broken T)
    summed_found l e t = at_lowest T.routes (route_broken T) r l h.passed (sym (tested e) ∙ t)

  pub summed_end : (r positions trips events : ℕ) → Summed T r positions trips events → T.routes ≤ r → None ≡ lowest_of T.routes (route_broken T)
  summed_end r positions trips events h l = let u = h.upto in no_lowest T.routes (route_broken T) r (omega arith) h.passed

-- the sums of the routes below r
pub record Totalled (T : Tables) (r positions trips : ℕ) : Type 0 where
  pub upto : r ≤ T.routes
  pub positions_are : positions ≡ positions_to T r
  pub trips_are : trips ≡ trips_to T r
  pub positions≤ : positions ≤ 64 * r
  pub trips≤ : trips ≤ 512 * r

module _ (T : Tables) where
  pub totalled_start : Totalled T 0 0 0
  unfolding positions_to trips_to sum_below
  totalled_start = record { upto = omega arith; positions_are = refl; trips_are = refl; positions≤ = omega arith; trips≤ = omega arith }

  pub totalled_next : (r positions trips : ℕ) → Laid T → Totalled T r positions trips → r < T.routes →
      Totalled T (r + 1) (positions + n_of T r) (trips + m_of T r)
  unfolding positions_to trips_to
  totalled_next r positions trips laid h l =
      record {
        upto = omega arith;
        positions_are = rw sum_below_next (rw h.positions_are refl);
        trips_are = rw sum_below_next (rw h.trips_are refl);
        positions≤ = omega (arith, laid.n≤ r l, h.positions≤);
        trips≤ = omega (arith, laid.m≤ r l, h.trips≤);
      }

  -- the totals are small, and each route has a position
  pub record TotalsFit (positions trips : ℕ) : Type 0 where
    pub positions≥ : T.routes ≤ positions
    pub positions≤ : positions ≤ 4096
    pub trips≤ : trips ≤ 32768

  totals_to : Laid T → (k : ℕ) → k ≤ T.routes →
      (k ≤ positions_to T k) × (positions_to T k ≤ 64 * k) × (trips_to T k ≤ 512 * k)
  unfolding positions_to trips_to sum_below
  totals_to laid zero l = (omega arith, omega arith, omega arith)
  totals_to laid (suc k) l =
      let x = totals_to laid k (omega arith) in (
        omega (arith, x.0, laid.n≥ k l),
        omega (arith, x.1, laid.n≤ k l),
        omega (arith, x.2, laid.m≤ k l),
      )

  pub totals_fit : {x : Totals} → Laid T → x ≡ totals_of T → TotalsFit x.positions x.trips
  totals_fit laid e =
      let y = totals_to laid T.routes (le_refl T.routes) in
      let r = laid.routes≤ in
      rw e (record { positions≥ = y.0; positions≤ = omega (arith, y.1); trips≤ = omega (arith, y.2) })
