-- What the program's functions ask: tables that `run` takes, and labels that hold four rows.
use Rattle.std.specs.Prelude.{◌≡◌, false, ℕ, ◌≤◌, length}
use Rattle.paper.specs.Timetable.{Tables}
use Rattle.paper.specs.Reply.{question_broken}
use Rattle.paper.specs.declared.Question.{Question}
use Rattle.paper.specs.Rules.{Fit}

pub record Askable (T : Tables) (q : Question) : Type 0 where
  pub fit : Fit T
  pub good : question_broken T q ≡ false

-- lists that tables of full size may begin with
pub record Begun (T : Tables) : Type 0 where
  pub routes : length T.t1 ≤ 256
  pub positions : length T.t2 ≤ 2048
  pub arrivals : length T.t3 ≤ 2048
  pub departures : length T.t4 ≤ 2048
  pub walks : length T.t5 ≤ 1536

pub record Rowed (labels stops : ℕ) : Type 0 where
  pub room : 2304 ≤ labels
  pub few : stops ≤ 256
