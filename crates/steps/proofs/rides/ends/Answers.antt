-- `steps::rides::ends` meets its contract. The sum is made of 64 bits, so that it fits.
use Rattle.steps.proofs.Leaves.{ends_there, ends_elsewhere}
use Rattle.steps.proofs.rides.ends.Goals as goal

pub returns-then-tables-at : goal.returns-then-tables-at
returns-then-tables-at c = ends_there _ _ _ _ _ _ _ _ c.if-tables-at.true

pub returns : goal.returns
returns c = ends_elsewhere _ _ _ _ _ _ _ _ c.if-tables-at.false
