use native.Mathlib.Omega.{arith}
use Rattle.laws.specs.Below.{mark}
use Rattle.scan.proofs.Walking.{walking_start, walking_step}
use Rattle.scan.proofs.walks.walk.Goals as goal

pub loop-w-init : goal.loop-w-init
unfolding mark
loop-w-init c = walking_start _ _ _ (λ s h. omega (arith, c.type_inv.next s))

pub loop-w-preserved : goal.loop-w-preserved
loop-w-preserved c =
    walking_step _ _ _ c.requires c.loop-w.invariant c.loop-w-test.true c.walk_on.ensures
