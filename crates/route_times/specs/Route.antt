-- One route's own times, and 8 or 9 at one of its events.
use Rattle.std.specs.Prelude.{Bool, List, [], ℕ, ◌*◌, ◌≤◌, length}
use Rattle.paper.specs.Timetable.{Route}
use Rattle.paper.specs.Rules.{time_broken, overtakes}
use Rattle.route_times.specs.declared.Sought.{Sought}
use Rattle.route_times.specs.declared.Times.{Times}

-- a route by itself, of which only the times are read
abbrev pub times_of : ℕ → ℕ → List ℕ → List ℕ → Route
times_of n m arrivals departures = record { n = n; m = m; stops = []; arrivals = arrivals; departures = departures }

abbrev pub timed : Times → Route
timed x = times_of x.n x.m x.arrivals.now x.departures.now

-- its times stand in the tables
pub record InRoute (R : Route) : Type 0 where
  pub n≥ : 1 ≤ R.n
  pub n≤ : R.n ≤ 64
  pub m≥ : 1 ≤ R.m
  pub m≤ : R.m ≤ 512
  pub small : R.n * R.m ≤ 2048
  pub arrivals≥ : R.n * R.m ≤ length R.arrivals
  pub departures≥ : R.n * R.m ≤ length R.departures

-- Trip j's event is tested, and of 9 the next trip's is the place
abbrev pub ahead : Sought → ℕ
ahead Sought.Time = 0
ahead Sought.Overtake = 1

unfoldable pub event_broken : Sought → Route → ℕ → ℕ → Bool
event_broken Sought.Time = time_broken
event_broken Sought.Overtake = overtakes
