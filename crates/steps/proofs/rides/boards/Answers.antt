-- `steps::rides::boards` meets its contract: a stop that is not reached permits nobody,
-- another whoever is there by the departure.
use Rattle.steps.proofs.Leaves.{boards_unreached, boards_reached}
use Rattle.steps.proofs.rides.boards.Goals as goal

pub returns-then-here : goal.returns-then-here
returns-then-here c = boards_unreached _ _ _ _ _ _ c.requires c.if-here.true

pub returns : goal.returns
returns c = boards_reached _ _ _ _ _ _ c.requires c.if-here.false
