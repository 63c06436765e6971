use mathlib.Core.Path.{refl}
use Rattle.route_records.proofs.Trip.{trip_bad, can_arrive, can_depart, trip_done, riding_start, riding_room, riding_step, riding_bad}
use Rattle.route_records.proofs.trips.read_trips.Goals as goal

pub loop-init : goal.loop-init
loop-init c = riding_start c.args.m c.requires

pub returns-then-not-stands : goal.returns-then-not-stands
returns-then-not-stands c =
    let room = riding_room c.args.m c.requires c.loop.invariant c.loop-test.true in
    riding_bad c.args.m c.requires c.loop.invariant c.loop-test.true (trip_bad room c.stands.ensures c.if-not-stands.true c.at.ensures)

pub keep_times-requires-clause-arrivals : goal.keep_times-requires-clause-arrivals
keep_times-requires-clause-arrivals c =
    can_arrive (riding_room c.args.m c.requires c.loop.invariant c.loop-test.true) c.stands.ensures c.if-not-stands.false

pub keep_times-requires-clause-departures : goal.keep_times-requires-clause-departures
keep_times-requires-clause-departures c =
    can_depart (riding_room c.args.m c.requires c.loop.invariant c.loop-test.true) c.stands.ensures c.if-not-stands.false

pub loop-preserved : goal.loop-preserved
loop-preserved c =
    let room = riding_room c.args.m c.requires c.loop.invariant c.loop-test.true in
    riding_step c.args.m c.requires c.loop.invariant c.loop-test.true
    (trip_done room c.stands.ensures c.if-not-stands.false c.keep_times.ensures.arrivals c.keep_times.ensures.departures
    (record { routes = refl; positions = refl; arrivals = refl; departures = refl; walks = refl })
    (record { routes = refl; positions = refl; walks = refl }))
