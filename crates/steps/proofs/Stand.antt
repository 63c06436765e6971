-- Where a route of a sound timetable stands in its tables, and that its part of them is what the code reads.
use mathlib.Core.Path.{◌≡◌}
use mathlib.Core.List.{List}
use Prim.Native.Nat.{ℕ, ◌+◌, ◌*◌, ◌≤◌, ◌<◌}
use native.Mathlib.Omega.{arith}
use lib.ListN.{length}
use Rattle.laws.proofs.Tests.{cell_in}
use Rattle.laws.proofs.Lists.{get_d_part}
use Rattle.paper.specs.Rules.{Fit}
use Rattle.paper.specs.Timetable.{Tables, n_of, m_of, first_position, first_event, route_of, arrive_at, depart_at}
use Rattle.paper.proofs.RouteEnds.{positions_in, arrivals_in, departures_in}
use Rattle.paper.proofs.Usable.{usable_of, stop_is}
use Rattle.extents.specs.Extent.{extent_of}
use Rattle.steps.specs.Search.{time_in, Ending, Boarding, WalksIn}

module _ (T : Tables) (fit : Fit T) where
  pub walks_in : WalksIn T.t5 T.walks
  walks_in = record {
    room = omega (arith, fit.sound.walks≤, fit.walks_room);
    few = fit.sound.walks≤;
    from< = λ w l. let h = (fit.sound.walk w l).from< in omega (arith, fit.sound.stops≤);
    once = (usable_of T fit.sound).walk_once;
  }

  module _ (r j i : ℕ) (lr : r < T.routes) (lj : j < m_of T r) (li : i < n_of T r) where
    event_before : first_event T r + (j * n_of T r + i) < first_event T r + n_of T r * m_of T r
    event_before = let c = cell_in (n_of T r) (m_of T r) j i lj li in omega arith

    pub arrive_is : arrive_at (route_of T r) j i ≡ time_in T.t3 (extent_of T.t1 r) j i
    unfolding route_of
    arrive_is = get_d_part T.t3 (first_event T r) (first_event T r + n_of T r * m_of T r) (j * n_of T r + i) 0 event_before

    pub depart_is : depart_at (route_of T r) j i ≡ time_in T.t4 (extent_of T.t1 r) j i
    unfolding route_of
    depart_is = get_d_part T.t4 (first_event T r) (first_event T r + n_of T r * m_of T r) (j * n_of T r + i) 0 event_before

    position_in : first_position T r + i < length T.t2
    position_in = omega (arith, positions_in T fit r lr)

    pub ending_in : Ending T.t2 T.t3 (extent_of T.t1 r) j i
    ending_in = record { position = position_in; event = omega (arith, event_before, arrivals_in T fit r lr) }

    pub boarding_in : (row : List ℕ) → T.stops ≤ length row → Boarding T.t2 T.t4 row (extent_of T.t1 r) j i
    boarding_in row h = record {
      position = position_in;
      event = omega (arith, event_before, departures_in T fit r lr);
      stop = let a = (usable_of T fit.sound).stop< r i lr (unfold route_of in li) in omega (arith, stop_is T r i li);
    }
