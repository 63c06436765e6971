-- Loops over all places of a rule, which leave nowhere early: that where they find nothing wrong, nothing is.
use Rattle.std.specs.Prelude.{◌≡◌, Bool, true, false, ℕ, ◌+◌, ◌*◌, ◌-◌, ◌≤◌, ◌<◌, ltb, get_or}
use Rattle.paper.specs.Timetable.{Route}
use Rattle.paper.specs.Rules.{EventTimes, NoOvertaking}
use Rattle.route_times.specs.declared.Sought.{Sought}
use Rattle.route_times.specs.Route.{InRoute, ahead, event_broken}

-- 8 at both ends of trip j
pub record EndsRight (R : Route) (j : ℕ) : Type 0 where
  pub at_first : get_or R.arrivals (j * R.n) 0 ≡ get_or R.departures (j * R.n) 0
  pub at_last : get_or R.arrivals (j * R.n + (R.n - 1)) 0 ≡ get_or R.departures (j * R.n + (R.n - 1)) 0
  pub below : get_or R.departures (j * R.n + (R.n - 1)) 0 < 172800

pub record EndsTold (R : Route) (wrong : Bool) : Type 0 where
  pub right : wrong ≡ false → (j : ℕ) → j < R.m → EndsRight R j

-- 1 if the test holds, else 0
abbrev pub once : Bool → ℕ
once true = 1
once false = 0

-- does event e depart after the arrival of the event behind it?
unfoldable pub fall_at : Route → ℕ → ℕ
fall_at R e = once (ltb (get_or R.arrivals (e + 1) 0) (get_or R.departures e 0))

-- so many runs of `step` events, and behind them one event at least
pub record Steps (R : Route) (step runs : ℕ) : Type 0 where
  pub route : InRoute R
  pub some : 1 ≤ step
  pub within : runs * step < R.n * R.m

-- 8 on one route
pub record TimesTold (R : Route) (wrong : Bool) : Type 0 where
  pub right : wrong ≡ false → (j i : ℕ) → j < R.m → i < R.n → EventTimes R j i

-- 9 on one route
pub record OrderTold (R : Route) (wrong : Bool) : Type 0 where
  pub right : wrong ≡ false → (j i : ℕ) → j + 1 < R.m → i < R.n → NoOvertaking R j i

-- the one or the other
pub record BrokenTold (sought : Sought) (R : Route) (wrong : Bool) : Type 0 where
  pub right : wrong ≡ false → (j i : ℕ) → j + ahead sought < R.m → i < R.n → event_broken sought R j i ≡ false
