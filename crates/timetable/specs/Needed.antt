-- What the rules' functions need of their callers: full sizes, and that the rules before them are unbroken.
use Rattle.std.specs.Prelude.{◌≡◌, ℕ, ◌≤◌, length, None}
use Rattle.paper.specs.Timetable.{Tables}
use Rattle.paper.specs.Rules.{count_rules, first_broken}
use Rattle.trips.specs.Needed.{Laid}

-- "each must have at least its full size"
pub record Full (T : Tables) : Type 0 where
  pub routes : 256 ≤ length T.t1
  pub positions : 2048 ≤ length T.t2
  pub arrivals : 2048 ≤ length T.t3
  pub departures : 2048 ≤ length T.t4
  pub walks : 1536 ≤ length T.t5

-- full sizes, and 5 refuses nothing
pub record CountsRight (T : Tables) : Type 0 where
  pub full : Full T
  pub counts : first_broken count_rules T ≡ None

-- table 1 has its full size
pub record CountsLent (T : Tables) : Type 0 where
  pub routes : 256 ≤ length T.t1

-- the trips and events before a route
pub record Before (trips events : ℕ) : Type 0 where
  pub trips≤ : trips ≤ 512
  pub events≤ : events ≤ 2048

-- table 1, before its counts are tested
pub record RoutesLent (T : Tables) : Type 0 where
  pub routes≤ : T.routes ≤ 64
  pub long : 256 ≤ length T.t1

-- table 1 with right counts, and the number of walks
pub record LimitLent (T : Tables) : Type 0 where
  pub laid : Laid T
  pub walks≤ : T.walks ≤ 512
