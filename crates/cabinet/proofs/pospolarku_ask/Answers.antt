-- `cabinet::pospolarku_ask` meets its contract, from that of `planner::ask`.
use Rattle.cabinet.proofs.pospolarku_ask.Goals as goal

pub returns : goal.returns
returns c = record {
  answer = _;
  replied = c.ask-answer.ensures;
  number = c.checked_number.ensures;
  entries_are = c.put_entries.ensures;
}
