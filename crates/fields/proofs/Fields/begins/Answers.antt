-- `Fields::begins` meets its contract: both bytes are there, and are the mark's.
use native.Mathlib.Omega.{arith}
use Rattle.fields.proofs.Ends.{begins_not, begins_by}
use Rattle.fields.proofs.Fields.begins.Goals as goal

pub returns-then-n-lt2 : goal.returns-then-n-lt2
returns-then-n-lt2 c = begins_not _ _ _ (omega arith)

pub returns : goal.returns
returns c = begins_by _ _ _ (omega arith) c.byte.ensures.is c.byte-2.ensures.is
