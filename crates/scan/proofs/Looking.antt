-- What `board` and `look` keep, turn by turn.
use mathlib.Core.Path.{◌≡◌, refl, sym, ap, ◌∙◌}
use mathlib.Core.Bool.{true, false, cond}
use mathlib.Core.List.{List}
use Prim.Native.Nat.{ℕ, suc, ◌+◌, ◌-◌, ◌*◌, ◌≤◌, ◌<◌}
use native.Mathlib.Nat.{mul_comm, mul-le-mul_right}
use native.Mathlib.Numerals.{add-one}
use native.Mathlib.Omega.{arith}
use lib.Arith.{digits_lt}
use lib.ListN.{length, get_or}
use lib.Dec.{eqb, ltb}
use borrow.Author.Tests.{eq-eqb, ne_eqb, le-leb, lt-leb, lt-ltb}
use Rattle.laws.specs.Below.{mark, only, first_below, sum_below}
use Rattle.laws.specs.Lists.{lower_by, lower_at}
use Rattle.laws.proofs.Tests.{by_test, climb}
use Rattle.laws.proofs.Below.{first_below-only, sum_below_next}
use Rattle.laws.proofs.Lists.{lower_by_none, lower_by_same, lower_by_more, length-lower_by}
use Rattle.paper.specs.Timetable.{Route, stop_at, arrive_at}
use Rattle.paper.specs.Rows.{label, boards, ride_on}
use Rattle.paper.specs.Work.{first_caught, caught, cost_at, look_cost}
use Rattle.paper.proofs.Steps.{label_read}
use Rattle.paper.proofs.Scan.{Orderly, scan_at, caught_le}
use Rattle.paper.proofs.WorkLimit.{looks_le}
use Rattle.scan.specs.Look.{catches, Boardable, Boarded, Scannable, Looked}
use Rattle.scan.proofs.Scan.{first_below-min, scan_to, caught_next, scan_to_one, scan_to_at, scan_to_off, scan_to_all}

-- the event of trip j < c at position i < n stands in a table of the first c trips
pub cell_in : (xs : List ℕ) (n c j i : ℕ) → j < c → i < n → c * n ≤ length xs → j * n + i < length xs
cell_in xs n c j i hj hi h = omega (arith, digits_lt hj hi)

-- ---- board

module _ (departures : List ℕ) (n i c at : ℕ) where
  -- nobody is there
  pub board_none : at ≡ mark → Boarded departures n i c at c 0
  board_none h =
      let e : eqb at mark ≡ true = eq-eqb at mark h in
      record {
        trip_is = sym (first_below-only c (catches departures n i at) c (omega arith) (λ j l. rw e) (λ l. absurd (omega arith)));
        work_is = rw e;
      }

  -- the loop's invariant: the trips from k up to c are caught, and as many departures were compared
  pub record Boarding (k work : ℕ) : Type 0 where
    pub below : k ≤ c
    pub counted : work + k ≡ c
    pub caught_all : (j : ℕ) → k ≤ j → j < c → at ≤ get_or departures (j * n + i) 0

  module _ (there : at ≡ mark → ⊥) (k work : ℕ) (b : Boarding k work) where
    off : eqb at mark ≡ false
    off = ne_eqb at mark there

    caught_from : (j : ℕ) → k ≤ j → j < c → catches departures n i at j ≡ true
    caught_from j h l = rw off (le-leb at (get_or departures (j * n + i) 0) (b.caught_all j h l))

    -- the trip before k is before `at`
    pub board_stop_lem : Boardable departures n i c → 0 < k → get_or departures ((k - 1) * n + i) 0 < at → Boarded departures n i c at (k - 1 + 1) (work + 1)
    board_stop_lem pre pos stop =
        let z : k - 1 + 1 ≡ k = omega arith in
        rw z record {
          trip_is = sym (first_below-only c (catches departures n i at) k b.below
              (λ j l. rw off (lt-leb at (get_or departures (j * n + i) 0)
              (let r = climb (λ t. get_or departures (t * n + i) 0) c pre.rises j (k - 1) (omega arith) (omega (arith, b.below)) in omega arith)))
              (λ l. caught_from k (omega arith) l));
          work_is = rw (off, lt-ltb 0 k pos) (omega (arith, b.counted));
        }

    -- every trip below c is caught
    pub board_all : k ≤ 0 → Boarded departures n i c at 0 work
    board_all none =
        record {
          trip_is = sym (first_below-only c (catches departures n i at) 0 (omega arith) (λ j l. absurd (omega arith)) (λ l. caught_from 0 none l));
          work_is = rw off (omega (arith, b.counted));
        }

  -- each trip is compared once at most, and one more
  pub board_few : {trip work : ℕ} → Boarded departures n i c at trip work → work ≤ c + 1
  board_few {trip} {work} b =
      by_test (eqb at mark)
      (λ t. let z : work ≡ 0 = rw t at b.work_is in omega arith)
      (λ f. by_test (ltb 0 trip)
      (λ t. let z : work ≡ c - trip + 1 = rw (f, t) at b.work_is in omega arith)
      (λ t. let z : work ≡ c - trip + 0 = rw (f, t) at b.work_is in omega arith))

-- ---- look

-- the loop's invariant: c is caught before position i, work is what the positions before i cost, and `reach` has what was left up to position i
pub record Scanned (R : Route) (row reach₀ reach : List ℕ) (c work i : ℕ) : Type 0 where
  pub below : i < R.n
  pub trip_is : c ≡ caught R row i
  pub work_is : work ≡ sum_below i (cost_at R row)
  pub reach_is : reach ≡ lower_by (scan_to R row (i + 1)) reach₀

module _ (R : Route) (row reach₀ : List ℕ) where
  pub scanned_start : 1 ≤ R.n → ((s : ℕ) → s < length reach₀ → get_or reach₀ s 0 ≤ mark) → Scanned R row reach₀ reach₀ R.m 0 0
  unfolding caught sum_below
  scanned_start some small =
      record {
        below = some;
        trip_is = refl;
        work_is = refl;
        reach_is = lower_by_none (scan_to R row 1) reach₀ 0 (λ s h. scan_to_one R row s) small;
      }

  module _ {reach : List ℕ} {c work i : ℕ} (pre : Scannable R (length row) (length reach₀)) (sc : Scanned R row reach₀ reach c work i) where
    trip_le : c ≤ R.m
    trip_le = omega (arith, caught_le R row i, sc.trip_is)

    pub reach_long : length reach ≡ length reach₀
    reach_long = ap length sc.reach_is ∙ length-lower_by (scan_to R row (i + 1)) reach₀

    orderly : Orderly R
    unfolding mark
    orderly =
        record {
          departs = pre.departures_rise;
          arrives = pre.arrivals_rise;
          arrive< = λ j i l m. omega (arith, pre.arrive< j i l m);
        }

    -- a trip is found in any table of the route's events that rises at this position
    pub boardable : {xs : List ℕ} → length xs ≡ R.n * R.m → ((j : ℕ) → j + 1 < R.m → get_or xs (j * R.n + i) 0 ≤ get_or xs ((j + 1) * R.n + i) 0) → Boardable xs R.n i c
    boardable size rise =
        record {
          inside = sc.below;
          few = omega (arith, trip_le, pre.few_trips);
          size = omega (arith, mul-le-mul_right R.n trip_le, mul_comm R.n R.m);
          rises = λ j h. rise j (omega (arith, trip_le));
        }

    -- whichever table was compared, the count is small
    pub work_small : {xs : List ℕ} {at c' w : ℕ} → Boarded xs R.n i c at c' w → work + w ≤ i + R.m + (R.m + 1)
    work_small b = omega (arith, board_few _ _ _ _ _ b, trip_le, looks_le R row i, sc.work_is)

    module _ {c' w : ℕ} (b : Boarded R.departures R.n i c (get_or row (stop_at R i) 0) c' w) where
      there : get_or row (stop_at R i) 0 ≡ label row (stop_at R i)
      there = sym (label_read row (stop_at R i) (pre.in_row i sc.below))

      next_trip : c' ≡ caught R row (i + 1)
      unfolding first_caught boards
      next_trip =
          let e : c' ≡ first_below c (λ j. boards R row j i) = rw there at b.trip_is in
          omega (arith, first_below-min c R.m (λ j. boards R row j i) trip_le, caught_next R row i, sc.trip_is)

      cost_is : w ≡ cost_at R row i
      unfolding cost_at
      cost_is =
          let e₁ : c ≡ caught R row i = sc.trip_is in
          let e₂ : c' ≡ caught R row (suc i) = rw add-one at next_trip in
          let e₃ : w ≡ cond (eqb (label row (stop_at R i)) mark) 0 (c - c' + cond (ltb 0 c') 1 0) = rw there at b.work_is in
          cc

      next_work : work + w ≡ sum_below (i + 1) (cost_at R row)
      next_work = omega (arith, cost_is, sum_below_next i (cost_at R row), sc.work_is)

      leaves : scan_at R row (i + 1) ≡ only (ltb c' R.m) (arrive_at R c' (i + 1))
      unfolding scan_at
      leaves = rw (← next_trip)

      pub scanned_step :
          {reach' : List ℕ} {t : ℕ} → i + 1 < R.n → t ≡ only (ltb c' R.m) (arrive_at R c' (i + 1)) → reach' ≡ lower_at reach (stop_at R (i + 1)) t
          → Scanned R row reach₀ reach' c' (work + w) (i + 1)
      scanned_step {reach'} {t} h arrives lowers =
          record {
            below = h;
            trip_is = next_trip;
            work_is = next_work;
            reach_is = lowers ∙ rw sc.reach_is
                (lower_by_more (scan_to R row (i + 1)) (scan_to R row (i + 1 + 1)) reach₀ (stop_at R (i + 1)) t (pre.in_reach (i + 1) h)
                (omega (arith, scan_to_at R row (i + 1), leaves, arrives))
                (scan_to_off R row (i + 1)));
          }

    -- after the last position that is boarded at, all rides are there, and all the work
    pub scanned_end : R.n - 1 ≤ i → Looked R row reach₀ reach work
    unfolding look_cost
    scanned_end h =
        let z : i + 1 ≡ R.n = omega (arith, sc.below) in
        let y : i ≡ R.n - 1 = omega (arith, sc.below) in
        record {
          reach_is = sc.reach_is ∙ lower_by_same (scan_to R row (i + 1)) (ride_on R row) reach₀ (λ s l. rw z (scan_to_all R row orderly s));
          work_is = rw y at sc.work_is;
        }
