-- `question_line::number_at` meets its contract: the loop keeps `Scanned`.
use Rattle.question_line.proofs.Scanned.{Scanned}
use Rattle.question_line.proofs.number_at.Given as goal

abbrev pub invariant-loop-i : goal.invariant-loop-i
invariant-loop-i l = Scanned l.input l.at l.stop l.value l.i
