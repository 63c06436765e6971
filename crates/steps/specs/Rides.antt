-- The search for the first ride: what its levels ask and answer, in document 01's words.
use Rattle.std.specs.Prelude.{◌≡◌, List, ℕ, ◌≤◌, ◌<◌, length, Option}
use Rattle.paper.specs.Timetable.{Tables, lent}
use Rattle.paper.specs.Rules.{Fit}
use Rattle.paper.specs.Tie.{boarded_first, left_first, trip_first, route_first}
use Rattle.paper.specs.declared.Leg.{Leg}
use Rattle.extents.specs.Extent.{extent_of}
use Rattle.extents.specs.declared.Extent.{Extent}
use Rattle.steps.specs.declared.rides.Sought.{Sought}

-- the row has a label for each stop of a sound timetable
pub record Seeking (T : Tables) (row : List ℕ) : Type 0 where
  pub fit : Fit T
  pub labelled : T.stops ≤ length row

-- route r is looked at, and the code knows where it lies
pub record Looking (T : Tables) (row : List ℕ) (r : ℕ) (x : Extent) : Type 0 where
  pub fit : Fit T
  pub labelled : T.stops ≤ length row
  pub route< : r < T.routes
  pub extent : x ≡ extent_of T.t1 r

-- its trip j is tried at position l
pub record Trying (x : Extent) (j l : ℕ) : Type 0 where
  pub trip< : j < x.m
  pub leave< : l < x.n

-- the first ride that leaves trip j of route r at position l; that is on this trip; on this route; and of all
abbrev pub boarded_by : Sought → ℕ → ℕ → ℕ → Option Leg
boarded_by x = boarded_first (lent x.tables) x.row.now x.way.stop x.way.seconds x.v x.way.after

abbrev pub left_by : Sought → ℕ → ℕ → Option Leg
left_by x = left_first (lent x.tables) x.row.now x.way.stop x.way.seconds x.v x.way.after

abbrev pub trip_by : Sought → ℕ → Option Leg
trip_by x = trip_first (lent x.tables) x.row.now x.way.stop x.way.seconds x.v x.way.after

abbrev pub ride_by : Sought → Option Leg
ride_by x = route_first (lent x.tables) x.row.now x.way.stop x.way.seconds x.v x.way.after
