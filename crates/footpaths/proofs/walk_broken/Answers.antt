-- `footpaths::walk_broken`: the walk's own tests, then the walk before it.
use Rattle.paper.specs.Rules.{rises}
use Rattle.footpaths.proofs.WalkTests.{walk_own, walk_next, walk_first}
use Rattle.footpaths.proofs.walk_broken.Goals as goal

pub returns-then-from-stops : goal.returns-then-from-stops
returns-then-from-stops c = walk_own _ _ c.if-from-stops.true

pub returns-then-w-gt0 : goal.returns-then-w-gt0
unfolding rises
returns-then-w-gt0 c = walk_next _ _ c.if-from-stops.false c.if-w-gt0.true

pub returns : goal.returns
returns c = walk_first _ _ c.if-from-stops.false c.if-w-gt0.false
