-- 8 and 9: the lowest broken event on one route and on all.
use Rattle.std.specs.Prelude.{Bool, not, ◌&&◌, ◌||◌, List, ℕ, ◌+◌, ◌*◌, ◌-◌, eqb, leb, ltb, Option, Some, None}
use Rattle.laws.specs.Below.{given, first_found}
use Rattle.laws.specs.Lists.{part}
use Rattle.paper.specs.Timetable.{Tables, Route}
use Rattle.paper.specs.Rules.{lowest_time, lowest_overtaken}
use Rattle.extents.specs.declared.Extent.{Extent}
use Rattle.route_times.specs.declared.Sought.{Sought}
use Rattle.route_times.specs.Route.{times_of, ahead, event_broken}

-- 8 of an event's own times, which are equal at both ends of a trip
unfoldable pub own_broken : Bool → ℕ → ℕ → Bool
own_broken outer arrive depart = leb 172800 arrive || leb 172800 depart || ltb depart arrive || outer && not (eqb arrive depart)

-- the lowest broken event of a route, counted within the route
unfoldable pub broken_in : Sought → Route → Option ℕ
broken_in s R = first_found (R.m - ahead s) λ j. first_found R.n λ i. given (event_broken s R j i) (Some ((j + ahead s) * R.n + i))

-- the lowest of all routes
unfoldable pub lowest_event : Sought → Tables → Option ℕ
lowest_event Sought.Time T = lowest_time T
lowest_event Sought.Overtake T = lowest_overtaken T

-- a place further on by a
unfoldable pub further : ℕ → Option ℕ → Option ℕ
further a None = None
further a (Some x) = Some (a + x)

-- the route that lies there, by itself
abbrev pub cut : Extent → List ℕ → List ℕ → Route
cut x t3 t4 = times_of x.n x.m (part x.event (x.event + x.n * x.m) t3) (part x.event (x.event + x.n * x.m) t4)

unfoldable pub broken_at : Sought → Extent → List ℕ → List ℕ → Option ℕ
broken_at s x t3 t4 = further x.event (broken_in s (cut x t3 t4))
