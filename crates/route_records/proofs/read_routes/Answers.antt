use Rattle.std.proofs.lemmas.Result.{err_from_is_err_and}
use Rattle.route_records.proofs.Routing.{routing_start, routing_step, routing_bad}
use Rattle.route_records.proofs.read_routes.Goals as goal

pub loop-init : goal.loop-init
loop-init c = routing_start c.requires

pub returns-in_err-q : goal.returns-in_err-q
returns-in_err-q c =
    let p = err_from_is_err_and c.from_residual.result c.from_residual.ensures.1 in
    rw (p.1, p.2) (routing_bad c.requires c.loop.invariant c.loop-test.true c.in_err-q.ensures)

pub loop-preserved : goal.loop-preserved
loop-preserved c = routing_step c.requires c.loop.invariant c.loop-test.true c.in_ok-q.ensures
