-- `answer_lines::put_journeys` meets its contract: a line of two numbers.
use Rattle.laws.specs.Text.{ascii}
use Rattle.paper.specs.Lines.{journeys_line}
use Rattle.answer_lines.proofs.put_journeys.Goals as goal

pub returns : goal.returns
unfolding journeys_line ascii
returns c = c.put_line.ensures
