-- `dialogue::refuse` meets its contract: the buffer has room for the longest refusal.
use Rattle.dialogue.proofs.Said.{refusal_says}
use Rattle.dialogue.proofs.refuse.Goals as goal

pub returns : goal.returns
returns c = refusal_says c.requires c.render_refusal.ensures c.unwrap_or.ensures
