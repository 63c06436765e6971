-- What a sound timetable in tables of full size gives a ride and a walk.
use mathlib.Core.Path.{◌≡◌}
use Prim.Native.Nat.{ℕ, ◌*◌, ◌<◌}
use native.Mathlib.Omega.{arith}
use Rattle.laws.proofs.Lists.{length-part_of}
use Rattle.paper.specs.Timetable.{Tables, n_of, m_of, first_event, route_of}
use Rattle.paper.specs.Rules.{Sound, Fit}
use Rattle.paper.proofs.RouteEnds.{positions_in, arrivals_in, departures_in}
use Rattle.paper.proofs.Usable.{Usable, usable_of}
use Rattle.extents.specs.Extent.{extent_of}
use Rattle.scan.specs.Look.{route_at, Scannable, Standing, Rideable}

module _ (T : Tables) (fit : Fit T) where
  sound : Sound T
  sound = fit.sound

  usable : Usable T
  usable = usable_of T sound

  module _ (r : ℕ) (h : r < T.routes) where
    scannable : Scannable (route_at (extent_of T.t1 r) T.t2 T.t3 T.t4) T.stops 256
    unfolding route_of
    scannable =
        let s = sound.route r h in
        record {
          some = omega (arith, s.n≥);
          few_stops = s.n≤;
          few_trips = s.m≤;
          arrivals_size = length-part_of T.t3 (first_event T r) (n_of T r * m_of T r) (arrivals_in T fit r h);
          departures_size = length-part_of T.t4 (first_event T r) (n_of T r * m_of T r) (departures_in T fit r h);
          in_row = λ i l. usable.stop< r i h l;
          in_reach = λ i l. omega (arith, usable.stop< r i h l, sound.stops≤);
          arrive< = λ j i l m. (sound.times r j i h l m).arrive<;
          arrivals_rise = λ j i l m. (sound.no_overtaking r j i h l m).arrives;
          departures_rise = λ j i l m. (sound.no_overtaking r j i h l m).departs;
        }

    standing : Standing (extent_of T.t1 r) T.t2 T.t3 T.t4 T.stops 256
    standing = record { positions_in = positions_in T fit r h; arrivals_in = arrivals_in T fit r h; departures_in = departures_in T fit r h; scannable = scannable }

  pub rideable : (row : ℕ) → row ≡ T.stops → Rideable T row 256
  rideable row e = record { few = sound.routes≤; heads = omega (arith, sound.routes≤, fit.routes_room); standing = λ r l. rw e (standing r l) }
