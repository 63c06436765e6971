use native.Mathlib.Nat.{lt_trans, le_antisymm}
use Rattle.laws.proofs.Found.{nothing_more}
use Rattle.steps.proofs.Search.{boards_in_lem, board_miss, board_hit, boarded_none, boarded_some}
use Rattle.steps.proofs.rides.Sought.boarded.Goals as goal

pub boards-requires : goal.boards-requires
boards-requires c =
    let trying = c.requires.trying in
    boards_in_lem c.requires.looking _ _ trying.trip< (lt_trans c.loop-i-test.true trying.leave<)

pub returns-then-boards : goal.returns-then-boards
returns-then-boards c =
    let at = c.requires.looking in
    let t = c.requires.trying in
    boarded_some at _ _ _ _ _ t.trip< _ t.leave< _ c.loop-i-test.true c.loop-i.invariant
    (board_hit at _ _ t.trip< _ t.leave< _ c.loop-i-test.true c.boards.ensures c.if-boards.true)

pub loop-i-preserved : goal.loop-i-preserved
loop-i-preserved c =
    let t = c.requires.trying in
    nothing_more _ _ c.loop-i.invariant
    (board_miss c.requires.looking _ _ t.trip< _ t.leave< _ c.loop-i-test.true c.boards.ensures c.if-boards.false)

pub returns : goal.returns
returns c =
    let t = c.requires.trying in
    let all = le_antisymm c.loop-i.auto.i-end c.loop-i-test.false in
    boarded_none c.requires.looking _ _ _ _ _ t.trip< _ t.leave< _ all c.loop-i.invariant
