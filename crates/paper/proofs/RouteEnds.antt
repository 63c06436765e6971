-- Where the routes of a timetable end, and that tables of full size hold all of them.
use Prim.Native.Nat.{ℕ, ◌+◌, ◌*◌, ◌≤◌, ◌<◌}
use native.Mathlib.Nat.{mul-le-mul_left}
use native.Mathlib.Omega.{arith}
use lib.ListN.{length}
use Rattle.laws.proofs.Below.{sum_below_le, sum_below_at}
use Rattle.paper.specs.Timetable.{Tables, n_of, m_of, first_position, first_event, positions_to, events_to}
use Rattle.paper.specs.Rules.{Sound, Fit}

-- each route has a trip, so that there are no more positions than events
pub positions_events : (T : Tables) → ((r : ℕ) → r < T.routes → 1 ≤ m_of T r) → positions_to T T.routes ≤ events_to T T.routes
unfolding positions_to events_to
positions_events T h =
    sum_below_le T.routes (n_of T) (λ r. n_of T r * m_of T r) (λ r l. omega (arith, mul-le-mul_left (n_of T r) (h r l)))

module _ (T : Tables) (s : Sound T) where
  pub positions_end : positions_to T T.routes ≤ 2048
  positions_end = omega (arith, positions_events T (λ r l. (s.route r l).m≥), s.events≤)

  module _ (r : ℕ) (l : r < T.routes) where
    pub route_positions : first_position T r + n_of T r ≤ positions_to T T.routes
    unfolding positions_to
    route_positions = omega (arith, (s.route r l).first_position_is, sum_below_at T.routes r (n_of T) l)

    pub route_events : first_event T r + n_of T r * m_of T r ≤ events_to T T.routes
    unfolding events_to
    route_events = omega (arith, (s.route r l).first_event_is, sum_below_at T.routes r (λ k. n_of T k * m_of T k) l)

module _ (T : Tables) (fit : Fit T) (r : ℕ) (l : r < T.routes) where
  pub head_in : r * 4 + 3 < length T.t1
  head_in = omega (arith, fit.sound.routes≤, fit.routes_room)

  pub positions_in : first_position T r + n_of T r ≤ length T.t2
  positions_in = omega (arith, route_positions T fit.sound r l, positions_end T fit.sound, fit.positions_room)

  pub arrivals_in : first_event T r + n_of T r * m_of T r ≤ length T.t3
  arrivals_in = omega (arith, route_events T fit.sound r l, fit.sound.events≤, fit.arrivals_room)

  pub departures_in : first_event T r + n_of T r * m_of T r ≤ length T.t4
  departures_in = omega (arith, route_events T fit.sound r l, fit.sound.events≤, fit.departures_room)
