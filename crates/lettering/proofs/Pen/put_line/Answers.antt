-- `lettering::Pen::put_line` meets its contract.
use mathlib.Core.List.{append_assoc}
use native.Mathlib.Omega.{arith}
use Rattle.lettering.proofs.Puts.{wrote_append, wrote_same}
use Rattle.lettering.proofs.Pen.put_line.Goals as goal

pub returns : goal.returns
returns c =
    wrote_same (simp append_assoc) (omega arith)
    (wrote_append (wrote_append c.put_named.ensures c.put_named-2.ensures) c.put_byte.ensures)
