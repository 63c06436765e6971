use borrow.Author.Rules.{rules}
use Rattle.paper.specs.Timetable.{lent}
use Rattle.sending.proofs.Sent.{sent, sending_room, sending_step}
use Rattle.sending.proofs.Put.{trip_mark, events_start, trip_end}
use Rattle.sending.proofs.records.put_trip.Goals as goal

pub put_word-requires : goal.put_word-requires
put_word-requires c = trip_mark c.requires

pub loop-i-init : goal.loop-i-init
loop-i-init c = events_start c.requires (sent c.put_word.ensures)

pub put_event-requires : goal.put_event-requires
put_event-requires c =
    record {
      arrival< = c.requires.arrivals.each c.loop-i.i (search rules);
      departure< = c.requires.departures.each c.loop-i.i (search rules);
      room = sending_room c.loop-i.invariant (search rules);
    }

pub loop-i-preserved : goal.loop-i-preserved
loop-i-preserved c = sending_step c.loop-i.invariant (search rules) c.put_event.ensures

pub returns : goal.returns
returns c = trip_end (lent c.args.tables) c.args.n c.args.v (sent c.put_word.ensures) c.loop-i.invariant (search rules)
