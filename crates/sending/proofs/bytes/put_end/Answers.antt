-- `sending::bytes::put_end` meets its contract: the mark, then the sum of what stands before it.
use Rattle.sending.proofs.Sent.{sent, sent_end}
use Rattle.sending.proofs.bytes.put_end.Goals as goal

pub returns : goal.returns
returns c = sent_end (sent c.put_word.ensures) c.sum_before-sum.ensures.is (sent c.put_word-2.ensures)
