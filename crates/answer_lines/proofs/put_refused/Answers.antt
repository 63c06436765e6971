-- `answer_lines::put_refused` meets its contract: a line of two numbers.
use Rattle.laws.specs.Text.{ascii}
use Rattle.paper.specs.Lines.{refused_line}
use Rattle.answer_lines.proofs.put_refused.Goals as goal

pub returns : goal.returns
unfolding refused_line ascii
returns c = c.put_line.ensures
