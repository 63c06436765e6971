-- `sending::records::put_head` meets its contract: field after field.
use Rattle.sending.proofs.Sent.{sent, sent_then}
use Rattle.sending.proofs.records.put_head.Goals as goal

pub returns : goal.returns
returns c =
    sent_then (sent c.put_word.ensures)
    (sent_then (sent c.put_byte.ensures)
    (sent_then (sent c.put_byte-2.ensures)
    (sent_then (sent c.put_byte-3.ensures)
    (sent_then c.put_two.ensures
    c.put_two-2.ensures))))
