-- The promise of `ask`: the answer and the two lent tables at exit are those of 01's reply.
use Rattle.std.specs.Prelude.{◌≡◌, List, ℕ, Result, Ok, Err}
use Rattle.paper.specs.Reply.{Reply, refused}
use Rattle.paper.specs.declared.Refusal.{Refusal}
use Rattle.paper.specs.declared.Answer.{Answer}
use Rattle.planner.specs.declared.Found.{Found}

pub record Replied (x : Reply) (answer : Answer) (labels legs : List ℕ) : Type 0 where
  pub answer_is : answer ≡ x.answer
  pub labels_are : labels ≡ x.labels
  pub legs_are : legs ≡ x.legs

-- what was found as an answer, or the refusal
abbrev pub answer_of : Result Found Refusal → Answer
answer_of (Ok x) = record { verdict = Ok x.work; count = x.listed.count; entries = x.listed.entries }
answer_of (Err x) = refused x
