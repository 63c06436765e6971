-- `journeys::clear` meets its contract: what the library's `fill` gives, and what stood past it.
use Rattle.laws.specs.Below.{mark}
use Rattle.laws.proofs.Runs.{front_marked}
use Rattle.journeys.proofs.clear.Goals as goal

pub returns : goal.returns
unfolding mark
returns c = front_marked _ _ c.requires (c.fill.ensures.after (λ y h. h))
