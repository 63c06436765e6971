-- `cabinet::pospolarku_read` meets its contract, from that of `feed::read`: the room's tables are those that were lent.
use Rattle.std.proofs.Common.{rules}
use Rattle.cabinet.proofs.Answers.{lent_back}
use Rattle.cabinet.proofs.pospolarku_read.Goals as goal

pub returns : goal.returns
returns c = record {
  reading = _;
  leaves = lent_back c.read.new.room c.read.ensures.leaves (search rules) (search rules) (search rules) (search rules) (search rules);
  number = c.reading_number.ensures;
}
