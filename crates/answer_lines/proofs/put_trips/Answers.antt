-- `answer_lines::put_trips` meets its contract: a line of two numbers.
use Rattle.laws.specs.Text.{ascii}
use Rattle.paper.specs.Lines.{trips_line}
use Rattle.answer_lines.proofs.put_trips.Goals as goal

pub returns : goal.returns
unfolding trips_line ascii
returns c = c.put_line.ensures
