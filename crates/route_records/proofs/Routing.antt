-- Route after route: what the code leaves when k of them are read.
use mathlib.Core.Path.{◌≡◌, refl, sym, ◌∙◌, subst}
use mathlib.Core.List.{List}
use Prim.Native.Nat.{ℕ, ◌+◌, ◌<◌}
use native.Mathlib.Omega.{arith}
use borrow.Author.Tests.{ne_eqb}
use Rattle.std.specs.Prelude.{Result, Ok, Err}
use Rattle.laws.specs.Below.{iterate}
use Rattle.laws.proofs.Below.{iterate_next}
use Rattle.paper.specs.Reading.{Routes, next_route, route_at, no_routes}
use Rattle.paper.specs.declared.Refusal.{Refusal}
use Rattle.paper.specs.declared.Room.{Room}
use Rattle.route_records.specs.State.{routes_of, RoutesOn, RoutesRoom, no_mid}
use Rattle.route_records.specs.declared.RoutesRead.{RoutesRead}
use Rattle.route_records.proofs.Held.{holds_front, holds_most, holds_take, holds_chain, iterate_stays}
use Rattle.route_records.proofs.Trip.{all_kept, kept_on}

module _ {f : List ℕ} {e k : ℕ} {old : Room} (pre : RoutesRoom e k f old) where
  abbrev to : ℕ → Routes
  to j = iterate j (next_route f e) no_routes

  pub routing_start : RoutesOn e 0 no_mid (to 0) (Ok no_mid) old old
  unfolding iterate
  routing_start =
      record {
        limits = record { within = pre.behind_head; trips = omega arith; behind = λ z. omega arith };
        held = record {
          routes = holds_front (omega arith) (omega arith);
          positions = holds_front (omega arith) (omega arith);
          arrivals = holds_front (omega arith) (omega arith);
          departures = holds_front (omega arith) (omega arith);
          walks = refl;
          kept = all_kept;
        };
        end = record { bad = refl; at = refl; trips = refl; heads = refl; positions = refl; arrivals = refl; departures = refl };
      }

  module _ {j : ℕ} {q : RoutesRead} {room : Room} (h : RoutesOn e j no_mid (to j) (Ok q) old room) (l : j < k) where
    same : routes_of q room ≡ to j
    same =
        let v = h.held in
        let u = h.end in
        λ i. record {
          bad = sym u.bad i;
          at = u.at i;
          trips = u.trips i;
          t1 = holds_take v.routes q.heads u.heads i;
          t2 = holds_take v.positions q.positions u.positions i;
          t3 = holds_take v.arrivals q.events u.arrivals i;
          t4 = holds_take v.departures q.events u.departures i;
        }

    pub routing_step : {r : Result RoutesRead Refusal} {new : Room} → RoutesOn e 1 q (next_route f e (routes_of q room)) r room new
        → RoutesOn e (j + 1) no_mid (to (j + 1)) r old new
    routing_step {r} {new} g =
        let v = h.held in
        let u = h.end in
        let x = subst (λ (y : Routes). RoutesOn e 1 q (next_route f e y) r room new) same g in
        rw (iterate_next j (next_route f e) no_routes)
        (record {
          limits = x.limits;
          held = record {
            routes = holds_most (omega (arith, u.heads, v.routes.most)) (holds_chain v.routes x.held.routes u.heads);
            positions = holds_chain v.positions x.held.positions u.positions;
            arrivals = holds_chain v.arrivals x.held.arrivals u.arrivals;
            departures = holds_chain v.departures x.held.departures u.departures;
            walks = x.held.walks ∙ v.walks;
            kept = kept_on v.kept x.held.kept;
          };
          end = x.end;
        })

    -- a bad record ends it
    pub routing_bad : {x : Refusal} {new : Room} → RoutesOn e 1 q (next_route f e (routes_of q room)) (Err x) room new
        → RoutesOn e k no_mid (to k) (Err x) old new
    unfolding next_route route_at
    routing_bad {x} {new} g =
        let y = routing_step g in
        let v = y.held in
        let t = iterate_stays (next_route f e) no_routes (j + 1) (simp (ne_eqb (to (j + 1)).bad 0 y.end.met)) k (omega arith) in
        rw t
        (record {
          limits = y.limits;
          held = record {
            routes = holds_most (omega arith) v.routes;
            positions = v.positions;
            arrivals = v.arrivals;
            departures = v.departures;
            walks = v.walks;
            kept = v.kept;
          };
          end = y.end;
        })
