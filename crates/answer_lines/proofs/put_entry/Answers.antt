-- `answer_lines::put_entry` meets its contract.
use Rattle.lettering.proofs.Puts.{wrote_append}
use Rattle.paper.specs.Lines.{entry_lines}
use Rattle.answer_lines.proofs.put_entry.Goals as goal

pub returns : goal.returns
unfolding entry_lines
returns c = wrote_append c.put_trips.ensures c.put_legs.ensures
