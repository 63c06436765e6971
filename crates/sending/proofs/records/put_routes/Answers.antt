use borrow.Author.Rules.{rules}
use Rattle.paper.specs.Timetable.{lent}
use Rattle.paper.specs.Feed.{route_bytes, routes_bytes}
use Rattle.sending.proofs.Sent.{sending_start, sending_room, sending_step, sending_end}
use Rattle.sending.proofs.records.put_routes.Goals as goal

pub loop-r-init : goal.loop-r-init
unfolding routes_bytes
loop-r-init c = sending_start (route_bytes (lent c.args.tables)) c.args.tables.heads.routes c.requires.room

pub put_route-requires : goal.put_route-requires
put_route-requires c =
    record { fits = c.requires.fits c.loop-r.r (search rules); room = sending_room c.loop-r.invariant (search rules) }

pub loop-r-preserved : goal.loop-r-preserved
loop-r-preserved c = sending_step c.loop-r.invariant (search rules) c.put_route.ensures

pub returns : goal.returns
unfolding routes_bytes
returns c = sending_end c.loop-r.invariant (search rules)
