-- `rounds_main::ask_bridge` meets its contract: the bridge network may be asked.
use Rattle.rounds_main.proofs.Networks.{bridge_askable}
use Rattle.rounds_main.proofs.ask_bridge.Goals as goal

pub ask-requires-clause-asked : goal.ask-requires-clause-asked
ask-requires-clause-asked g c = bridge_askable _ _ c.requires
