-- `leg_lines::put_walk` meets its contract.
use Rattle.lettering.proofs.Puts.{wrote_append}
use Rattle.leg_lines.proofs.put_walk.Goals as goal

pub returns : goal.returns
returns c = wrote_append (wrote_append c.put_byte.ensures c.put_walked.ensures) c.put_byte-2.ensures
