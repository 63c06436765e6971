-- `route_records::read_route` meets its contract: the cases of `next_route`; a good route is its row, its stops, and then its trips.
use mathlib.Core.Path.{refl}
use Rattle.std.proofs.lemmas.Result.{err_from_is_err_and}
use Rattle.route_records.proofs.Route.{route_refused, can_stops, can_trips, route_done}
use Rattle.route_records.proofs.read_route.Goals as goal

pub returns-in_err-check_route : goal.returns-in_err-check_route
returns-in_err-check_route c =
    let p = err_from_is_err_and c.from_residual.result c.from_residual.ensures.1 in
    rw (p.1, p.2) (route_refused c.requires c.byte-n.ensures.is c.two-m.ensures.is
    c.in_err-check_route.ensures)

pub keep_stops-requires : goal.keep_stops-requires
keep_stops-requires c =
    can_stops c.requires c.byte-n.ensures.is c.two-m.ensures.is c.in_ok-check_route.ensures

pub read_trips-requires : goal.read_trips-requires
read_trips-requires c =
    can_trips c.requires c.byte-n.ensures.is c.two-m.ensures.is c.in_ok-check_route.ensures refl refl

pub returns-in_err-q : goal.returns-in_err-q
returns-in_err-q c =
    let p = err_from_is_err_and c.from_residual-in_err-q.result c.from_residual-in_err-q.ensures.1 in
    rw (p.1, p.2)
    (route_done c.requires c.byte-n.ensures.is c.two-m.ensures.is c.in_ok-check_route.ensures refl refl
    c.keep_row.ensures c.keep_stops.ensures refl
    (record { routes = refl; positions = refl; arrivals = refl; departures = refl; walks = refl })
    c.in_err-q.ensures)

pub returns : goal.returns
returns c =
    route_done c.requires c.byte-n.ensures.is c.two-m.ensures.is c.in_ok-check_route.ensures refl refl
    c.keep_row.ensures c.keep_stops.ensures refl
    (record { routes = refl; positions = refl; arrivals = refl; departures = refl; walks = refl })
    c.in_ok-q.ensures
