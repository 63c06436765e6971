-- Head, routes, walks and the end together.
use mathlib.Core.Path.{◌≡◌, refl, sym, ◌∙◌, subst}
use mathlib.Core.List.{List, []}
use Prim.Native.Nat.{ℕ, ◌-◌, ◌≤◌, ◌<◌}
use native.Mathlib.Omega.{arith}
use lib.ListN.{length}
use lib.Dec.{eqb}
use borrow.Author.Tests.{eq-eqb, ne_eqb}
use Rattle.std.specs.Borrow.{MutBor}
use Rattle.std.specs.Prelude.{⊤, Result, Ok, Err}
use Rattle.laws.specs.Below.{iterate}
use Rattle.laws.specs.Fields.{byte, two}
use Rattle.laws.proofs.Tests.{by_test}
use Rattle.paper.specs.Reading.{Routes, Walks, next_route, no_routes, next_walk, records_of, head_bad, head_only, whole_of}
use Rattle.paper.specs.declared.Refusal.{Refusal}
use Rattle.paper.specs.declared.Room.{Room}
use Rattle.paper.proofs.HeadRead.{head_counts}
use Rattle.head.specs.Head.{HeadDone}
use Rattle.route_records.specs.Keep.{Holds}
use Rattle.route_records.specs.State.{RoutesRoom, RoutesOn, no_mid}
use Rattle.route_records.specs.declared.RoutesRead.{RoutesRead}
use Rattle.route_records.proofs.Held.{iterate_stays}
use Rattle.route_records.proofs.Trip.{all_kept}
use Rattle.records.specs.State.{Fills, RestRoom, walks_from, RestDone, Ended, BodyRoom}

fills : {k m n : ℕ} {xs d₀ d : List ℕ} → m ≤ n → Holds k m xs d₀ d → Fills n xs d₀ d
fills l h = record { fits = omega (arith, h.most); is = h.is }

fills_none : {n : ℕ} {d : List ℕ} → Fills n [] d d
fills_none = record { fits = omega arith; is = refl }

-- ---- the head

place_small : (b : ℕ) → (head_only b).at < 32768
unfolding head_only
place_small b = by_test (eqb b 4) (λ t. simp t (omega arith)) (λ t. simp t (omega arith))

pub ended_head : (f : List ℕ) {x : Refusal} {room : Room} → HeadDone (head_bad f) (Err x) → Ended (whole_of f) (Err x) room room
unfolding whole_of head_only
ended_head f head =
    simp (ne_eqb (head_bad f) 0 head.0)
    (record {
      small = place_small (head_bad f);
      end = record { met = head.0; is = head.1 };
      filled = record {
        routes = fills_none;
        positions = fills_none;
        arrivals = fills_none;
        departures = fills_none;
        walks = fills_none;
        kept = all_kept;
      };
    })

-- ---- routes, walks and the end, behind a good head

module _ {f : List ℕ} {old : Room} (pre : BodyRoom f old) (head : head_bad f ≡ 0) {k : ℕ} (ek : k ≡ byte f 4) where
  pub routes_room : RoutesRoom (length f - 4) k f old
  routes_room =
      let u = pre.full in
      record {
        behind_head = omega (arith, pre);
        feed = omega (arith, pre);
        small = omega (arith, pre);
        k≤ = omega (arith, (head_counts f head).0);
        long1 = u.long1;
        long2 = u.long2;
        long3 = u.long3;
        long4 = u.long4;
      }

  abbrev to : Routes
  to = iterate k (next_route f (length f - 4)) no_routes

  whole_is : whole_of f ≡ records_of f (byte f 4) (two f 5)
  unfolding whole_of
  whole_is = simp (eq-eqb (head_bad f) 0 head)

  -- a bad route: no walk is read behind it
  pub ended_routes : {x : Refusal} {new : Room} → RoutesOn (length f - 4) k no_mid to (Err x) old new → Ended (whole_of f) (Err x) old new
  unfolding records_of next_walk iterate
  ended_routes {x} {new} r =
      let v = r.held in
      let n = length f - 4 in
      let w : Walks = record { bad = to.bad; at = to.at; t5 = [] } in
      let t : iterate (two f 5) (next_walk f n) w ≡ w
      = iterate_stays (next_walk f n) w 0 (simp (ne_eqb to.bad 0 r.end.met)) (two f 5) (omega arith) in
      rw whole_is
      (rw (← ek)
      (simp (t, ne_eqb to.bad 0 r.end.met)
      (record {
        small = omega (arith, r.limits.within, pre.feed≤);
        end = r.end;
        filled = record {
          routes = fills (omega (arith, (head_counts f head).0)) v.routes;
          positions = fills (omega arith) v.positions;
          arrivals = fills (omega arith) v.arrivals;
          departures = fills (omega arith) v.departures;
          walks = rw v.walks fills_none;
          kept = v.kept;
        };
      })))

  module _ {q : RoutesRead} {mid : Room} (r : RoutesOn (length f - 4) k no_mid to (Ok q) old mid) where
    pub rest_room : RestRoom (length f - 4) q.at f mid.walks.now
    rest_room =
        record {
          within = omega (arith, r.end.at, r.limits.within);
          feed = omega (arith, pre);
          small = pre.feed≤;
          walks≤ = (head_counts f head).1;
          long5 = rw r.held.walks pre.full.long5;
        }

    pub ended_rest : (g : MutBor (List ℕ)) → g.ghost_name ≡ mid.walks.ghost_name → {z : Result ⊤ Refusal}
        → RestDone f (walks_from f (length f - 4) 0 q.at) z mid.walks.now g.now
        → Ended (whole_of f) z old
        (record { routes = mid.routes; positions = mid.positions; arrivals = mid.arrivals; departures = mid.departures; walks = g })
    unfolding records_of
    ended_rest g same {z} d =
        let v = r.held in
        let n = length f - 4 in
        let e : walks_from f n 0 q.at ≡ walks_from f n to.bad to.at = λ i. walks_from f n (sym r.end.bad i) (r.end.at i) in
        let x = subst (λ (w : Walks). RestDone f w z mid.walks.now g.now) e d in
        rw whole_is
        (rw (← ek)
        (record {
          small = x.small;
          end = x.end;
          filled = record {
            routes = fills (omega (arith, (head_counts f head).0)) v.routes;
            positions = fills (omega arith) v.positions;
            arrivals = fills (omega arith) v.arrivals;
            departures = fills (omega arith) v.departures;
            walks = rw v.walks at x.walks;
            kept = record {
              routes = v.kept.routes;
              positions = v.kept.positions;
              arrivals = v.kept.arrivals;
              departures = v.kept.departures;
              walks = same ∙ v.kept.walks;
            };
          };
        }))
