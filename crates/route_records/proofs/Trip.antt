-- One trip record, and trip after trip: the cases of `trip_at`, and what the code leaves in each.
use mathlib.Core.Path.{◌≡◌, refl, sym, ◌∙◌, subst}
use mathlib.Core.Bool.{Bool, true, false}
use mathlib.Core.List.{List, ◌++◌}
use Prim.Native.Nat.{ℕ, ◌+◌, ◌*◌, ◌≤◌, ◌<◌}
use native.Mathlib.Nat.{mul-suc, mul-le-mul_left}
use native.Mathlib.Numerals.{add-one}
use native.Mathlib.Omega.{arith}
use lib.ListN.{length, take, length-append}
use lib.Seq.{length-take-le}
use borrow.Author.Tests.{ne_eqb}
use Rattle.std.specs.Prelude.{Result, Ok, Err}
use Rattle.laws.specs.Below.{iterate}
use Rattle.laws.specs.Lists.{over}
use Rattle.laws.proofs.Below.{iterate_next}
use Rattle.paper.specs.Rules.{refusal}
use Rattle.paper.specs.Reading.{Trips, trip_at, marked, times_at}
use Rattle.paper.specs.declared.Refusal.{Refusal}
use Rattle.paper.specs.declared.Room.{Room}
use Rattle.paper.proofs.FeedRecords.{length_times, trip_good}
use Rattle.standing.proofs.Marks.{stands_by}
use Rattle.route_records.specs.Keep.{CanPut, Kept}
use Rattle.route_records.specs.State.{trips_of, TripRoom, TripsOthers, TripsOn}
use Rattle.route_records.specs.declared.trips.TripsRead.{TripsRead}
use Rattle.route_records.proofs.Held.{holds_front, holds_push, holds_most, holds_take, holds_chain, iterate_stays}

pub all_kept : {x : Room} → Kept x x
all_kept = record { routes = refl; positions = refl; arrivals = refl; departures = refl; walks = refl }

pub kept_on : {x y z : Room} → Kept x y → Kept y z → Kept x z
kept_on h g =
    record {
      routes = g.routes ∙ h.routes;
      positions = g.positions ∙ h.positions;
      arrivals = g.arrivals ∙ h.arrivals;
      departures = g.departures ∙ h.departures;
      walks = g.walks ∙ h.walks;
    }

module _ {f : List ℕ} {room : Room} {e n : ℕ} {s : TripsRead} (pre : TripRoom e n n s f room)
    {b : Bool} (stands : b ≡ marked f e s.at (2 + 6 * n) 84 80) where
  front3 : length (take s.events room.arrivals.now) ≡ s.events
  front3 = length-take-le s.events room.arrivals.now (omega (arith, pre.long3))

  front4 : length (take s.events room.departures.now) ≡ s.events
  front4 = length-take-le s.events room.departures.now (omega (arith, pre.long4))

  -- no trip stands here
  pub trip_bad : b ≡ false → {x : Refusal} → x ≡ refusal 3 s.at → TripsOn e n s (trip_at f e n (trips_of s room)) (Err x) room room
  unfolding trip_at
  trip_bad h i =
      simp (sym stands ∙ h)
      (record {
        within = pre.within;
        arrivals = holds_front (omega arith) (omega (arith, pre.long3));
        departures = holds_front (omega arith) (omega (arith, pre.long4));
        all = λ z. absurd (omega arith);
        end = record { met = λ z. omega arith; is = i };
        kept = all_kept;
        others = record { routes = refl; positions = refl; walks = refl };
      })

  module _ (right : b ≡ true) where
    fits : s.at + (2 + 6 * n) ≤ e
    fits = stands_by f e s.at (2 + 6 * n) 84 80 stands right

    pub can_arrive : CanPut f (s.at + 2) (6 * n) room.arrivals.now s.events n
    can_arrive = record { small = omega (arith, fits, pre); there = omega (arith, fits, pre); room = pre.long3 }

    pub can_depart : CanPut f (s.at + 2) (6 * n) room.departures.now s.events n
    can_depart = record { small = omega (arith, fits, pre); there = omega (arith, fits, pre); room = pre.long4 }

    pub trip_done : {new : Room} → new.arrivals.now ≡ over (take s.events room.arrivals.now ++ times_at f (s.at + 2) n) room.arrivals.now
        → new.departures.now ≡ over (take s.events room.departures.now ++ times_at f (s.at + 2 + 3) n) room.departures.now
        → Kept room new → TripsOthers room new
        → TripsOn e n s (trip_at f e n (trips_of s room)) (Ok (record { at = s.at + (2 + 6 * n); events = s.events + n })) room new
    trip_done {new} ea ed kept others =
        let x : s.at + 2 + 3 ≡ s.at + 5 = omega arith in
        let l3 = length_times f (s.at + 2) n in
        let l4 = length_times f (s.at + 5) n in
        rw (trip_good f e n (trips_of s room) refl (sym stands ∙ right))
        (record {
          within = fits;
          arrivals = holds_push (times_at f (s.at + 2) n) (omega (arith, pre.long3)) (omega arith) ea;
          departures = holds_push (times_at f (s.at + 5) n) (omega (arith, pre.long4)) (omega arith) (rw x at ed);
          all = λ z. omega (arith, length-append (take s.events room.arrivals.now) (times_at f (s.at + 2) n), front3);
          end = record {
            bad = refl;
            at = refl;
            arrivals = omega (arith, length-append (take s.events room.arrivals.now) (times_at f (s.at + 2) n), front3);
            departures = omega (arith, length-append (take s.events room.departures.now) (times_at f (s.at + 5) n), front4);
          };
          kept = kept;
          others = others;
        })

-- ---- one trip after another

module _ (m : ℕ) {f : List ℕ} {e n : ℕ} {s : TripsRead} {old : Room} (pre : TripRoom e n (n * m) s f old) where
  abbrev to : ℕ → Trips
  to j = iterate j (trip_at f e n) (trips_of s old)

  pub riding_start : TripsOn e (n * 0) s (to 0) (Ok s) old old
  unfolding iterate
  riding_start =
      record {
        within = pre.within;
        arrivals = holds_front (omega arith) (omega (arith, pre.long3));
        departures = holds_front (omega arith) (omega (arith, pre.long4));
        all = λ z. omega (arith, length-take-le s.events old.arrivals.now (omega (arith, pre.long3)));
        end = record {
          bad = refl;
          at = refl;
          arrivals = sym (length-take-le s.events old.arrivals.now (omega (arith, pre.long3)));
          departures = sym (length-take-le s.events old.departures.now (omega (arith, pre.long4)));
        };
        kept = all_kept;
        others = record { routes = refl; positions = refl; walks = refl };
      }

  module _ {j : ℕ} {q : TripsRead} {room : Room} (h : TripsOn e (n * j) s (to j) (Ok q) old room) (l : j < m) where
    more : n * (j + 1) ≡ n * j + n
    more = rw (add-one, mul-suc) (omega arith)

    most : n * (j + 1) ≤ n * m
    most = mul-le-mul_left n (omega arith)

    came : q.events ≡ s.events + n * j
    came = h.end.arrivals ∙ h.all h.end.bad

    same : trips_of q room ≡ to j
    same = λ i. record {
      bad = sym h.end.bad i;
      at = h.end.at i;
      t3 = holds_take h.arrivals q.events h.end.arrivals i;
      t4 = holds_take h.departures q.events h.end.departures i;
    }

    -- there is room for the next
    pub riding_room : TripRoom e n n q f room
    riding_room =
        record {
          within = omega (arith, h.within, h.end.at);
          feed = pre.feed;
          small = pre.small;
          n≤ = pre.n≤;
          long3 = omega (arith, came, more, most, pre.long3, h.arrivals.kept);
          long4 = omega (arith, came, more, most, pre.long4, h.departures.kept);
        }

    pub riding_step : {r : Result TripsRead Refusal} {new : Room} → TripsOn e n q (trip_at f e n (trips_of q room)) r room new
        → TripsOn e (n * (j + 1)) s (to (j + 1)) r old new
    riding_step {r} {new} g =
        let x = subst (λ (y : Trips). TripsOn e n q (trip_at f e n y) r room new) same g in
        rw (iterate_next j (trip_at f e n) (trips_of s old))
        (record {
          within = x.within;
          arrivals = holds_most (omega (arith, came, more)) (holds_chain h.arrivals x.arrivals h.end.arrivals);
          departures = holds_most (omega (arith, came, more)) (holds_chain h.departures x.departures h.end.departures);
          all = λ z. omega (arith, x.all z, came, more);
          end = x.end;
          kept = kept_on h.kept x.kept;
          others = record {
            routes = x.others.routes ∙ h.others.routes;
            positions = x.others.positions ∙ h.others.positions;
            walks = x.others.walks ∙ h.others.walks;
          };
        })

    -- a bad record ends it
    pub riding_bad : {x : Refusal} {new : Room} → TripsOn e n q (trip_at f e n (trips_of q room)) (Err x) room new → TripsOn e (n * m) s (to m) (Err x) old new
    unfolding trip_at
    riding_bad {x} {new} g =
        let y = riding_step g in
        let t = iterate_stays (trip_at f e n) (trips_of s old) (j + 1) (simp (ne_eqb (to (j + 1)).bad 0 y.end.met)) m (omega arith) in
        rw t
        (record {
          within = y.within;
          arrivals = holds_most (omega (arith, most)) y.arrivals;
          departures = holds_most (omega (arith, most)) y.departures;
          all = λ z. absurd (y.end.met z);
          end = y.end;
          kept = y.kept;
          others = y.others;
        })
