-- `sending::records::put_route` meets its contract: the row's fields, the stops, the trips.
use Rattle.paper.specs.Timetable.{lent}
use Rattle.sending.proofs.Sent.{sent, sent_then}
use Rattle.sending.proofs.Put.{route_mark, can_n, can_m, can_stops, can_trips, route_end}
use Rattle.sending.proofs.records.put_route.Goals as goal

pub put_word-requires : goal.put_word-requires
put_word-requires c = route_mark c.requires

pub put_byte-requires : goal.put_byte-requires
put_byte-requires c = can_n c.requires (sent c.put_word.ensures)

pub put_two-requires : goal.put_two-requires
put_two-requires c = can_m c.requires (sent_then (sent c.put_word.ensures) (sent c.put_byte.ensures))

pub put_stops-requires : goal.put_stops-requires
put_stops-requires c =
    can_stops c.requires (sent_then (sent c.put_word.ensures) (sent_then (sent c.put_byte.ensures) c.put_two.ensures))

pub put_trips-requires : goal.put_trips-requires
put_trips-requires c =
    let first = sent_then (sent c.put_word.ensures) (sent_then (sent c.put_byte.ensures) c.put_two.ensures) in
    can_trips c.requires (sent_then first c.put_stops.ensures)

pub returns : goal.returns
returns c =
    let first = sent_then (sent c.put_word.ensures) (sent_then (sent c.put_byte.ensures) c.put_two.ensures) in
    route_end (lent c.args.tables) c.args.r first c.put_stops.ensures c.put_trips.ensures
