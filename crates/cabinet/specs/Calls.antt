-- What each call for C and Rust leaves: of some answer what `read`, `write` and `ask` promise, and that answer's number.
use Rattle.std.specs.Prelude.{◌≡◌, List, ℕ, Result}
use Rattle.paper.specs.Timetable.{Tables}
use Rattle.paper.specs.Reading.{Outcome}
use Rattle.paper.specs.Reply.{Reply}
use Rattle.paper.specs.declared.Heads.{Heads}
use Rattle.paper.specs.declared.Refusal.{Refusal}
use Rattle.paper.specs.declared.Question.{Question}
use Rattle.paper.specs.declared.Answer.{Answer}
use Rattle.packing.specs.Packed.{checked_number, reading_number, entries_after}
use Rattle.feed.specs.State.{Lists, Leaves}
use Rattle.feed.specs.Writing.{Sends}
use Rattle.planner.specs.Asked.{Replied}

abbrev pub heads_by : ℕ → ℕ → ℕ → Heads
heads_by stops routes walks = record { stops = stops; routes = routes; walks = walks }

abbrev pub question_by : ℕ → ℕ → ℕ → ℕ → ℕ → Question
question_by start target time limit budget = record { start = start; target = target; time = time; limit = limit; budget = budget }

-- what tables 1 to 5 hold
abbrev pub five : List ℕ → List ℕ → List ℕ → List ℕ → List ℕ → Lists
five routes positions arrivals departures walks =
    record { routes = routes; positions = positions; arrivals = arrivals; departures = departures; walks = walks }

pub record Reads (o : Outcome) (r : ℕ) (old new : Lists) : Type 0 where
  pub reading : Result Heads Refusal
  pub leaves : Leaves o reading old new
  pub number : r ≡ reading_number reading

pub record Writes (T : Tables) (r : ℕ) (out₀ out : List ℕ) : Type 0 where
  pub writing : Result ℕ Refusal
  pub sends : Sends T writing out₀ out
  pub number : r ≡ checked_number writing

pub record Asks (x : Reply) (r : ℕ) (labels legs entries₀ entries : List ℕ) : Type 0 where
  pub answer : Answer
  pub replied : Replied x answer labels legs
  pub number : r ≡ checked_number answer.verdict
  pub entries_are : entries ≡ entries_after answer.count answer.entries entries₀
