use borrow.Author.Rules.{rules}
use borrow.Author.Tests.{lt-leb}
use Rattle.laws.proofs.Below.{passed_more}
use Rattle.closure.proofs.Begins.{past_passed, begin_here, begin_end}
use Rattle.closure.proofs.begin_from.Goals as goal

pub loop-w-init : goal.loop-w-init
loop-w-init c = (c.requires.upto, past_passed _ _ _ c.requires)

pub returns-then-tables-w : goal.returns-then-tables-w
returns-then-tables-w c = begin_here _ _ _ c.loop-w-test.true c.loop-w.invariant.1 c.if-tables-w.true

pub loop-w-preserved : goal.loop-w-preserved
loop-w-preserved c = (search rules, passed_more _ _ c.loop-w.invariant.1 (lt-leb _ _ c.if-tables-w.false))

pub returns : goal.returns
returns c = begin_end _ _ _ c.loop-w-test.false c.loop-w.invariant.0 c.loop-w.invariant.1
