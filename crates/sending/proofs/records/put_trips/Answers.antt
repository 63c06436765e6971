use borrow.Author.Rules.{rules}
use Rattle.paper.specs.Timetable.{lent}
use Rattle.sending.proofs.Sent.{sending_start, sending_room, sending_step}
use Rattle.sending.proofs.Put.{trip_at_row, trip_fits}
use Rattle.sending.proofs.records.put_trips.Goals as goal

pub loop-j-init : goal.loop-j-init
loop-j-init c = sending_start (trip_at_row (lent c.args.tables) c.args.n c.args.v) c.args.m c.requires.room

pub put_trip-requires : goal.put_trip-requires
put_trip-requires c = trip_fits c.requires (search rules) (sending_room c.loop-j.invariant (search rules))

pub loop-j-preserved : goal.loop-j-preserved
loop-j-preserved c = sending_step c.loop-j.invariant (search rules) c.put_trip.ensures
