-- `sending::records::put_walk` meets its contract: field after field.
use native.Mathlib.Omega.{arith}
use Rattle.paper.specs.Feed.{walk_bytes}
use Rattle.sending.proofs.Sent.{sent, sent_then}
use Rattle.sending.proofs.Put.{walk_room, can_from, can_to, can_seconds}
use Rattle.sending.proofs.records.put_walk.Goals as goal

pub put_word-requires : goal.put_word-requires
put_word-requires c = omega (arith, walk_room c.requires)

pub put_byte-requires : goal.put_byte-requires
put_byte-requires c = can_from c.requires (sent c.put_word.ensures)

pub put_byte-requires-2 : goal.put_byte-requires-2
put_byte-requires-2 c = can_to c.requires (sent_then (sent c.put_word.ensures) (sent c.put_byte.ensures))

pub put_two-requires : goal.put_two-requires
put_two-requires c =
    can_seconds c.requires
    (sent_then (sent c.put_word.ensures) (sent_then (sent c.put_byte.ensures) (sent c.put_byte-2.ensures)))

pub returns : goal.returns
unfolding walk_bytes
returns c =
    sent_then (sent c.put_word.ensures)
    (sent_then (sent c.put_byte.ensures) (sent_then (sent c.put_byte-2.ensures) c.put_two.ensures))
