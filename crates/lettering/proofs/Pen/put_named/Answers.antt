-- `lettering::Pen::put_named` meets its contract.
use Rattle.lettering.proofs.Puts.{wrote_append}
use Rattle.lettering.proofs.Pen.put_named.Goals as goal

pub returns : goal.returns
returns c = wrote_append c.put_word.ensures c.put_decimal.ensures
