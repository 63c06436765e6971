use borrow.Author.Rules.{rules}
use Rattle.paper.specs.Timetable.{lent}
use Rattle.paper.specs.Feed.{walk_bytes, walks_bytes}
use Rattle.sending.proofs.Sent.{sending_start, sending_room, sending_step, sending_end}
use Rattle.sending.proofs.records.put_walks.Goals as goal

pub loop-w-init : goal.loop-w-init
unfolding walks_bytes
loop-w-init c = sending_start (walk_bytes (lent c.args.tables)) c.args.tables.heads.walks c.requires.room

pub put_walk-requires : goal.put_walk-requires
put_walk-requires c =
    record { fits = c.requires.fits c.loop-w.w (search rules); room = sending_room c.loop-w.invariant (search rules) }

pub loop-w-preserved : goal.loop-w-preserved
loop-w-preserved c = sending_step c.loop-w.invariant (search rules) c.put_walk.ensures

pub returns : goal.returns
unfolding walks_bytes
returns c = sending_end c.loop-w.invariant (search rules)
