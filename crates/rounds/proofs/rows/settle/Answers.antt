use Rattle.rounds.proofs.Writing.{repeating_start, repeating_step, repeating_end}
use native.Mathlib.Omega.{arith}
use Rattle.rounds.proofs.rows.settle.Goals as goal

pub loop-j-init : goal.loop-j-init
loop-j-init c = repeating_start _ _ _ c.requires

pub loop-j-preserved : goal.loop-j-preserved
loop-j-preserved c =
    let after = c.copy_within.ensures in
    repeating_step _ _ _ c.requires c.loop-j.invariant c.loop-j-test.true (omega arith) after.len
    after.by_index.0 after.by_index.1 after.by_index.2

pub returns : goal.returns
returns c = repeating_end _ _ _ c.requires c.loop-j.invariant c.loop-j-test.false
