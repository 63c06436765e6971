-- `planner::question_broken`: the four tests are the definition's.
use Rattle.laws.proofs.Checking.{not_ltb}
use Rattle.paper.specs.Reply.{question_broken}
use Rattle.planner.proofs.question_broken.Goals as goal

pub returns : goal.returns
unfolding question_broken
returns c = simp not_ltb
