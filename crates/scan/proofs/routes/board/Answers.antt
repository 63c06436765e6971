use Rattle.laws.specs.Below.{mark}
use Rattle.scan.proofs.Looking.{board_none, board_stop_lem, board_all}
use Rattle.scan.proofs.routes.board.Goals as goal

pub returns-then-at-eq-MARK : goal.returns-then-at-eq-MARK
unfolding mark
returns-then-at-eq-MARK c = board_none _ _ _ _ _ c.if-at-eq-MARK.true

pub returns-then-departures-cell : goal.returns-then-departures-cell
unfolding mark
returns-then-departures-cell c =
    board_stop_lem _ _ _ _ _ c.if-at-eq-MARK.false _ _ c.loop-j.invariant c.requires c.loop-j-test.true c.if-departures-cell.true

pub returns : goal.returns
unfolding mark
returns c = board_all _ _ _ _ _ c.if-at-eq-MARK.false _ _ c.loop-j.invariant c.loop-j-test.false
