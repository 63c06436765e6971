-- The promise of `run`: labels and work of a question, or the round that passes the budget.
use Rattle.std.specs.Prelude.{◌≡◌, false, cond, List, ℕ, ◌≤◌, ltb, length, replicate, Result, Ok, Err}
use Rattle.laws.specs.Below.{mark}
use Rattle.laws.specs.Lists.{over}
use Rattle.paper.specs.Rules.{refusal, Fit}
use Rattle.paper.specs.Timetable.{Tables}
use Rattle.paper.specs.Work.{work_of, passing_round}
use Rattle.paper.specs.Reply.{question_broken, labels_table}
use Rattle.paper.specs.declared.Refusal.{Refusal}
use Rattle.paper.specs.declared.Question.{Question}

-- a sound timetable, a good question, and room for the labels
pub record Asked (T : Tables) (q : Question) (labels : List ℕ) : Type 0 where
  pub fit : Fit T
  pub good : question_broken T q ≡ false
  pub room : 2304 ≤ length labels

-- "the planner carries the count and refuses 13 when it passes the budget"
unfoldable pub rounds_of : Tables → Question → Result ℕ Refusal
rounds_of T q = cond (ltb q.budget (work_of T q)) (Err (refusal 13 (passing_round T q))) (Ok (work_of T q))

-- labels are right, or all mark
unfoldable pub labels_left : Tables → Question → List ℕ → List ℕ
labels_left T q d = cond (ltb q.budget (work_of T q)) (over (replicate 2304 mark) d) (over (labels_table T q) d)

pub record Ran (T : Tables) (q : Question) (labels₀ labels : List ℕ) (answer : Result ℕ Refusal) : Type 0 where
  pub answer_is : answer ≡ rounds_of T q
  pub labels_are : labels ≡ labels_left T q labels₀
