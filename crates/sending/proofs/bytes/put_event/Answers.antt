-- `sending::bytes::put_event` meets its contract: one field after the other.
use Rattle.sending.proofs.Sent.{sent_then}
use Rattle.sending.proofs.bytes.put_event.Goals as goal

pub returns : goal.returns
returns c = sent_then c.put_three.ensures c.put_three-2.ensures
