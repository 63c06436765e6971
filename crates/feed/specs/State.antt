-- What the reader promises besides 01's definitions: the answer, and the five tables as they are cleared, filled and judged.
use Rattle.std.specs.Prelude.{◌≡◌, List, [], ◌∷◌, ℕ, ◌+◌, length, Result}
use Rattle.laws.specs.Fields.{byte, two}
use Rattle.paper.specs.Timetable.{Tables, tables}
use Rattle.paper.specs.Reading.{Outcome, body_of, cleared, after, whole_of}
use Rattle.paper.specs.Reply.{reading_of}
use Rattle.paper.specs.declared.Heads.{Heads}
use Rattle.paper.specs.declared.Refusal.{Refusal}
use Rattle.paper.specs.declared.Room.{Room}
use Rattle.route_records.specs.Keep.{Kept}
use Rattle.records.specs.State.{Filled}

-- a feed's head counts
abbrev pub heads_of : List ℕ → Heads
heads_of f = record { stops = byte f 3 + 1; routes = byte f 4; walks = two f 5 }

-- the five tables are zero over their full size
pub record Cleared (old new : Room) : Type 0 where
  pub routes : new.routes.now ≡ cleared 256 old.routes.now
  pub positions : new.positions.now ≡ cleared 2048 old.positions.now
  pub arrivals : new.arrivals.now ≡ cleared 2048 old.arrivals.now
  pub departures : new.departures.now ≡ cleared 2048 old.departures.now
  pub walks : new.walks.now ≡ cleared 1536 old.walks.now
  pub kept : Kept old new

-- the records were read and judged, and the tables not yet cleared where they are bad
pub record Judged (f : List ℕ) (r : Result Heads Refusal) (old new : Room) : Type 0 where
  pub answer : r ≡ reading_of (body_of f)
  pub filled : Filled (whole_of f) old new

-- what tables 1 to 5 hold
pub record Lists : Type 0 where
  pub routes : List ℕ
  pub positions : List ℕ
  pub arrivals : List ℕ
  pub departures : List ℕ
  pub walks : List ℕ

abbrev pub lists : Room → Lists
lists room =
    record {
      routes = room.routes.now;
      positions = room.positions.now;
      arrivals = room.arrivals.now;
      departures = room.departures.now;
      walks = room.walks.now;
    }

abbrev pub lengths : Lists → List ℕ
lengths x = length x.routes ∷ length x.positions ∷ length x.arrivals ∷ length x.departures ∷ length x.walks ∷ []

-- with head counts beside them
abbrev pub tables_of : Heads → Lists → Tables
tables_of h x = tables h x.routes x.positions x.arrivals x.departures x.walks

-- the answer and the five tables are what the outcome says
pub record Leaves (o : Outcome) (r : Result Heads Refusal) (old new : Lists) : Type 0 where
  pub answer : r ≡ reading_of o
  pub routes : new.routes ≡ after 256 (λ T. T.t1) o old.routes
  pub positions : new.positions ≡ after 2048 (λ T. T.t2) o old.positions
  pub arrivals : new.arrivals ≡ after 2048 (λ T. T.t3) o old.arrivals
  pub departures : new.departures ≡ after 2048 (λ T. T.t4) o old.departures
  pub walks : new.walks ≡ after 1536 (λ T. T.t5) o old.walks
