use Rattle.journeys.proofs.Tracing.{tracing_start, tracing_found, tracing_placed, tracing_step, tracing_end}
use Rattle.journeys.proofs.legs.trace.Goals as goal

pub loop-j-init : goal.loop-j-init
loop-j-init c = tracing_start _ c.requires

pub board_stop-p-requires : goal.board_stop-p-requires
board_stop-p-requires c =
    tracing_placed c.loop-j.invariant c.loop-j-test.true c.step_back.ensures _ c.in-Some.is

pub loop-j-preserved-in-Some : goal.loop-j-preserved-in-Some
loop-j-preserved-in-Some c =
    tracing_step c.loop-j.invariant c.loop-j-test.true c.step_back.ensures _ c.in-Some.is
    c.place_of.ensures c.put_leg.ensures c.board_stop-p.ensures

pub loop-j-preserved : goal.loop-j-preserved
loop-j-preserved c =
    absurd (tracing_found c.loop-j.invariant c.loop-j-test.true c.step_back.ensures c.in_default.is)

pub returns : goal.returns
returns c = tracing_end c.loop-j.invariant c.loop-j-test.false
