-- `rounds_main::long_halt` meets its contract: the long halt may be asked.
use Rattle.rounds_main.proofs.Networks.{halt_askable}
use Rattle.rounds_main.proofs.long_halt.Goals as goal

pub ask-requires-clause-asked : goal.ask-requires-clause-asked
ask-requires-clause-asked g c = halt_askable
