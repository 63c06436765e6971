-- The rules in 01's order: what one rule's answer says of all of them, and what the rules before a rule give it.
use mathlib.Core.Path.{◌≡◌, refl, ◌∙◌}
use Rattle.std.specs.Prelude.{Option, Some, None, Result, Ok, Err}
use Prim.Native.Nat.{ℕ, ◌≤◌}
use native.Mathlib.Omega.{arith}
use lib.ListN.{length}
use Rattle.laws.specs.Below.{or_else}
use Rattle.laws.proofs.Checking.{or_else_nothing}
use Rattle.paper.specs.Timetable.{Tables, positions_to}
use Rattle.paper.specs.declared.Refusal.{Refusal}
use Rattle.paper.specs.Rules.{stop_broken, walk_broken, lowest_of, whole_rules, first_broken, fault_of, refused_by}
use Rattle.paper.specs.Reply.{done}
use Rattle.paper.proofs.RouteEnds.{positions_events}
use Rattle.paper.proofs.Places.{HeadsRight, heads_right, walk_right}
use Rattle.paper.proofs.Checks.{CountsUnbroken, counts_unbroken, routes_right, counts_events, walks_right, walks_rising}
use Rattle.footpaths.specs.Walks.{WalksLent}
use Rattle.closure.specs.Closed.{Walked}
use Rattle.trips.specs.Needed.{Laid, TimesLaid}
use Rattle.stops.specs.Stops.{of_stops}
use Rattle.timetable.specs.declared.Totals.{Totals}
use Rattle.timetable.specs.Counts.{totals_of}
use Rattle.timetable.specs.Needed.{Full, CountsRight, LimitLent}

-- ---- one answer after the other

pub done_none : {A : Type 0} (a : A) (x : Option Refusal) → Ok a ≡ done a x → x ≡ None
done_none a None e = refl
done_none a (Some x) e = cc

pub done_some : {A : Type 0} (a : A) (x : Option Refusal) {f : Refusal} → Err f ≡ done a x → x ≡ Some f
done_some a None e = cc
done_some a (Some x) e = cc

module _ {A : Type 0} (a : A) where
  -- the first refuses, or passes to what comes after it
  pub refused_first : {x : Option Refusal} (y : Option Refusal) {f : Refusal} → x ≡ Some f → Err f ≡ done a (or_else x y)
  unfolding or_else
  refused_first y e = rw e

  pub passed_first : {x : Option Refusal} (y : Option Refusal) {r : Result A Refusal} → x ≡ None → r ≡ done a y →
      r ≡ done a (or_else x y)
  unfolding or_else
  passed_first y e h = rw e h

  alone : (x : Option Refusal) → done a x ≡ done a (or_else x None)
  unfolding or_else
  alone None = refl
  alone (Some x) = refl

  -- the same of a rule, whose lowest place was found
  module _ (number : ℕ) {found place : Option ℕ} (is : found ≡ place) where
    pub refused_rule : (y : Option Refusal) {f : Refusal} → Err f ≡ done (tt {0}) (refused_by number found) →
        Err f ≡ done a (or_else (refused_by number place) y)
    refused_rule y e = refused_first y (rw is at (done_some (tt {0}) (refused_by number found) e))

    pub passed_rule : (y : Option Refusal) {r : Result A Refusal} → Ok (tt {0}) ≡ done (tt {0}) (refused_by number found) → r ≡ done a y →
        r ≡ done a (or_else (refused_by number place) y)
    passed_rule y e h = passed_first y (rw is at (done_none (tt {0}) (refused_by number found) e)) h

    pub last_rule : {r : Result A Refusal} → r ≡ done a (refused_by number found) →
        r ≡ done a (or_else (refused_by number place) None)
    last_rule e = rw (← is) (e ∙ alone (refused_by number found))

pub nowhere : (number : ℕ) (x : Option ℕ) → Ok (tt {0}) ≡ done (tt {0}) (refused_by number x) → x ≡ None
unfolding refused_by
nowhere number None e = refl
nowhere number (Some p) e = cc

-- ---- what the rules before a rule give it

module _ (T : Tables) where
  -- 7 is sought in table 2 alone, up to the count of positions
  pub stops_sought : {found : Option ℕ} {all : Totals} → all ≡ totals_of T → found ≡ lowest_of all.positions (stop_broken (of_stops T.stops T.t2)) →
      found ≡ lowest_of (positions_to T T.routes) (stop_broken T)
  unfolding stop_broken
  stops_sought e f = rw e at f

  module _ (h : CountsRight T) where
    unbroken : CountsUnbroken T
    unbroken = counts_unbroken T h.counts

    heads : HeadsRight T
    heads = heads_right T unbroken.heads

    pub laid_of : Laid T
    laid_of =
        record {
          routes≤ = heads.routes≤;
          long = h.full.routes;
          n≥ = λ r l. (routes_right T unbroken r l).counts.n≥;
          n≤ = λ r l. (routes_right T unbroken r l).counts.n≤;
          m≥ = λ r l. (routes_right T unbroken r l).counts.m≥;
          m≤ = λ r l. (routes_right T unbroken r l).counts.m≤;
          events≤ = λ r l. rw (routes_right T unbroken r l).first_event_is (routes_right T unbroken r l).counts.events≤;
        }

    pub positions_fit : {count : ℕ} → count ≡ positions_to T T.routes → count ≤ length T.t2
    positions_fit e = omega (arith, positions_events T laid_of.m≥, counts_events T unbroken, h.full.positions)

    pub times_laid : TimesLaid T
    times_laid = record { laid = laid_of; arrivals = h.full.arrivals; departures = h.full.departures }

    pub walks_lent : WalksLent T
    walks_lent = record { walks≤ = heads.walks≤; long = h.full.walks }

    pub walked_of : lowest_of T.walks (walk_broken T) ≡ None → Walked T
    walked_of n =
        record {
          stops≤ = heads.stops≤;
          walks≤ = heads.walks≤;
          long = h.full.walks;
          walk = λ w l. (walk_right T w (walks_right T n w l)).0;
          rising = walks_rising T n;
        }

    pub limit_lent : LimitLent T
    limit_lent = record { laid = laid_of; walks≤ = heads.walks≤ }

  pub counts_right : Full T → fault_of T ≡ None → CountsRight T
  unfolding fault_of
  counts_right f e = record { full = f; counts = (or_else_nothing _ (first_broken whole_rules T) e).0 }
