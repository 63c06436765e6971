-- `rounds_main::back_to_start` meets its contract: back to the start may be asked.
use Rattle.rounds_main.proofs.Networks.{back_askable}
use Rattle.rounds_main.proofs.back_to_start.Goals as goal

pub ask-requires-clause-asked : goal.ask-requires-clause-asked
ask-requires-clause-asked g c = back_askable
