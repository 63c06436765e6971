-- `lettering::Pen::put_next` meets its contract.
use Rattle.lettering.proofs.Puts.{wrote_append}
use Rattle.lettering.proofs.Pen.put_next.Goals as goal

pub returns : goal.returns
returns c = wrote_append c.put_byte.ensures c.put_decimal.ensures
