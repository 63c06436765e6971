-- `records::read_whole` meets its contract: the head, the routes, and the rest.
use mathlib.Core.Path.{refl}
use Rattle.std.proofs.lemmas.Result.{err_from_is_err_and}
use Rattle.records.proofs.Records.{ended_head, routes_room, ended_routes, rest_room, ended_rest}
use Rattle.records.proofs.read_whole.Goals as goal

pub returns-in_err-read_head : goal.returns-in_err-read_head
returns-in_err-read_head c =
    let p = err_from_is_err_and c.from_residual.result c.from_residual.ensures.1 in
    rw (p.1, p.2) (ended_head c.args.f.now c.in_err-read_head.ensures)

pub read_routes-requires : goal.read_routes-requires
read_routes-requires c = routes_room c.requires c.in_ok-read_head.ensures c.byte-k.ensures.is

pub returns-in_err-routes : goal.returns-in_err-routes
returns-in_err-routes c =
    let p = err_from_is_err_and c.from_residual-in_err-routes.result c.from_residual-in_err-routes.ensures.1
    in
    rw (p.1, p.2) (ended_routes c.requires c.in_ok-read_head.ensures c.byte-k.ensures.is
    c.in_err-routes.ensures)

pub read_rest-requires : goal.read_rest-requires
read_rest-requires c =
    rest_room c.requires c.in_ok-read_head.ensures c.byte-k.ensures.is c.in_ok-routes.ensures

pub returns : goal.returns
returns c =
    ended_rest c.requires c.in_ok-read_head.ensures c.byte-k.ensures.is c.in_ok-routes.ensures _ refl
    c.read_rest.ensures
