-- One look at a route: what it asks of the tables, and what it leaves.
use Rattle.std.specs.Prelude.{◌≡◌, Bool, not, cond, ◌&&◌, List, ℕ, ◌+◌, ◌-◌, ◌*◌, ◌≤◌, ◌<◌, eqb, leb, ltb, length, get_or}
use Rattle.laws.specs.Below.{mark, min_below, first_below, sum_below}
use Rattle.laws.specs.Lists.{part, lower_by}
use Rattle.extents.specs.Extent.{extent_of}
use Rattle.extents.specs.declared.Extent.{Extent}
use Rattle.scan.specs.declared.routes.Parts.{Parts}
use Rattle.paper.specs.Timetable.{Tables, Route, route_of, stop_at, arrive_at, depart_at}
use Rattle.paper.specs.Rows.{ride_on}
use Rattle.paper.specs.Work.{look_cost}

-- ---- at one position

-- is somebody who is there at `at` not after the departure of trip j from position i?
abbrev pub catches : List ℕ → ℕ → ℕ → ℕ → ℕ → Bool
catches departures n i at j = not (eqb at mark) && leb at (get_or departures (j * n + i) 0)

-- the departures of the first c trips are there, and do not fall at position i
pub record Boardable (departures : List ℕ) (n i c : ℕ) : Type 0 where
  pub inside : i < n
  pub few : c ≤ 512
  pub size : c * n ≤ length departures
  pub rises : (j : ℕ) → j + 1 < c → get_or departures (j * n + i) 0 ≤ get_or departures ((j + 1) * n + i) 0

-- `trip` is the first below c that is caught, or c; `work` is what 01 says that this costs
pub record Boarded (departures : List ℕ) (n i c at trip work : ℕ) : Type 0 where
  pub trip_is : trip ≡ first_below c (catches departures n i at)
  pub work_is : work ≡ cond (eqb at mark) 0 (c - trip + cond (ltb 0 trip) 1 0)

-- the event of trip c < m at position i < n stands in the table
pub record Landing (arrivals : List ℕ) (n m i : ℕ) : Type 0 where
  pub inside : i < n
  pub size : length arrivals ≡ n * m

-- ---- a route by itself

-- the route that three lent parts and a number of trips make
abbrev pub route_from : List ℕ → List ℕ → List ℕ → ℕ → Route
route_from stops arrivals departures m =
    record { n = length stops; m = m; stops = stops; arrivals = arrivals; departures = departures }

-- the same of the code's parts
abbrev pub cut : Parts → Route
cut x = route_from x.stops.now x.arrivals.now x.departures.now x.trips

-- what a look asks: sizes, stop numbers within a row of this length and within `reach`, and that no trip overtakes the one before it
pub record Scannable (R : Route) (row reach : ℕ) : Type 0 where
  pub some : 1 ≤ R.n
  pub few_stops : R.n ≤ 64
  pub few_trips : R.m ≤ 512
  pub arrivals_size : length R.arrivals ≡ R.n * R.m
  pub departures_size : length R.departures ≡ R.n * R.m
  pub in_row : (i : ℕ) → i < R.n → stop_at R i < row
  pub in_reach : (i : ℕ) → i < R.n → stop_at R i < reach
  pub arrive< : (j i : ℕ) → j < R.m → i < R.n → arrive_at R j i < 172800
  pub arrivals_rise : (j i : ℕ) → j + 1 < R.m → i < R.n → arrive_at R j i ≤ arrive_at R (j + 1) i
  pub departures_rise : (j i : ℕ) → j + 1 < R.m → i < R.n → depart_at R j i ≤ depart_at R (j + 1) i

-- what a look leaves: `reach` lowered to the earliest arrivals by one ride on the route, and the count
pub record Looked (R : Route) (row reach₀ reach : List ℕ) (work : ℕ) : Type 0 where
  pub reach_is : reach ≡ lower_by (ride_on R row) reach₀
  pub work_is : work ≡ look_cost R row

-- ---- the routes of the tables

-- the route of this extent in tables 2 to 4
abbrev pub route_at : Extent → List ℕ → List ℕ → List ℕ → Route
route_at x t2 t3 t4 =
    record {
      n = x.n;
      m = x.m;
      stops = part x.first (x.first + x.n) t2;
      arrivals = part x.event (x.event + x.n * x.m) t3;
      departures = part x.event (x.event + x.n * x.m) t4;
    }

-- the route of this extent stands in tables 2 to 4
pub record Standing (x : Extent) (t2 t3 t4 : List ℕ) (row reach : ℕ) : Type 0 where
  pub positions_in : x.first + x.n ≤ length t2
  pub arrivals_in : x.event + x.n * x.m ≤ length t3
  pub departures_in : x.event + x.n * x.m ≤ length t4
  pub scannable : Scannable (route_at x t2 t3 t4) row reach

-- the earliest arrival at stop s by one ride on a route below k, and what a look at these routes costs
unfoldable pub ride_below : Tables → ℕ → List ℕ → ℕ → ℕ
ride_below T k row s = min_below k λ r. ride_on (route_of T r) row s

unfoldable pub looks_below : Tables → ℕ → List ℕ → ℕ
looks_below T k row = sum_below k λ r. look_cost (route_of T r) row

pub record Rideable (T : Tables) (row reach : ℕ) : Type 0 where
  pub few : T.routes ≤ 64
  pub heads : T.routes * 4 ≤ length T.t1
  pub standing : (r : ℕ) → r < T.routes → Standing (extent_of T.t1 r) T.t2 T.t3 T.t4 row reach

pub record Ridden (T : Tables) (row reach₀ reach : List ℕ) (work : ℕ) : Type 0 where
  pub reach_is : reach ≡ lower_by (ride_below T T.routes row) reach₀
  pub work_is : work ≡ looks_below T T.routes row
