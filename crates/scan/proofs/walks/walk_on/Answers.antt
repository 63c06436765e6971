use Rattle.laws.specs.Below.{mark}
use Rattle.scan.proofs.walks.walk_on.Goals as goal

pub returns : goal.returns
unfolding mark
returns c = rw c.saturating_add.ensures at c.lower.ensures
