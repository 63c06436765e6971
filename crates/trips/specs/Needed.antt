-- What the functions of 8 and 9 need of their callers: right counts, and tables of full size.
use Rattle.std.specs.Prelude.{List, ℕ, ◌+◌, ◌*◌, ◌≤◌, ◌<◌, length}
use Rattle.paper.specs.Timetable.{Tables, Route, n_of, m_of, first_event}
use Rattle.extents.specs.declared.Extent.{Extent}
use Rattle.route_times.specs.Route.{InRoute}

-- table 1, and its counts are right
pub record Laid (T : Tables) : Type 0 where
  pub routes≤ : T.routes ≤ 64
  pub long : 256 ≤ length T.t1
  pub n≥ : (r : ℕ) → r < T.routes → 2 ≤ n_of T r
  pub n≤ : (r : ℕ) → r < T.routes → n_of T r ≤ 64
  pub m≥ : (r : ℕ) → r < T.routes → 1 ≤ m_of T r
  pub m≤ : (r : ℕ) → r < T.routes → m_of T r ≤ 512
  pub events≤ : (r : ℕ) → r < T.routes → first_event T r + n_of T r * m_of T r ≤ 2048

-- table 1 with right counts, and the tables of times
pub record TimesLaid (T : Tables) : Type 0 where
  pub laid : Laid T
  pub arrivals : 2048 ≤ length T.t3
  pub departures : 2048 ≤ length T.t4

-- a route that lies there, and the tables of times
pub record Lies (x : Extent) (t3 t4 : List ℕ) : Type 0 where
  pub n≥ : 1 ≤ x.n
  pub n≤ : x.n ≤ 64
  pub m≥ : 1 ≤ x.m
  pub m≤ : x.m ≤ 512
  pub events≤ : x.event + x.n * x.m ≤ 2048
  pub arrivals : 2048 ≤ length t3
  pub departures : 2048 ≤ length t4

-- one event of one route, of trip j at position i; k more trips follow
pub record AtEvent (k : ℕ) (R : Route) (j i : ℕ) : Type 0 where
  pub route : InRoute R
  pub trip : j + k < R.m
  pub position : i < R.n
