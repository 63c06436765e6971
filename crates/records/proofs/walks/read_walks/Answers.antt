use Rattle.records.proofs.Walk.{walk_bad, can_walk, walk_done, walking_start, walking_room, walking_step, walking_bad}
use Rattle.records.proofs.walks.read_walks.Goals as goal

pub loop-init : goal.loop-init
loop-init c = walking_start c.args.k c.requires

pub returns-then-not-stands : goal.returns-then-not-stands
returns-then-not-stands c =
    let room = walking_room c.args.k c.requires c.loop.invariant c.loop-test.true in
    walking_bad c.args.k c.requires c.loop.invariant c.loop-test.true (walk_bad room c.stands.ensures c.if-not-stands.true c.at.ensures)

pub keep_walk-requires : goal.keep_walk-requires
keep_walk-requires c =
    can_walk (walking_room c.args.k c.requires c.loop.invariant c.loop-test.true) c.stands.ensures c.if-not-stands.false

pub loop-preserved : goal.loop-preserved
loop-preserved c =
    let room = walking_room c.args.k c.requires c.loop.invariant c.loop-test.true in
    walking_step c.args.k c.requires c.loop.invariant c.loop-test.true
    (walk_done room c.stands.ensures c.if-not-stands.false c.keep_walk.ensures)
