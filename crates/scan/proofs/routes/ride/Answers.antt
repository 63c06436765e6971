use native.Mathlib.Omega.{arith}
use Rattle.laws.specs.Below.{mark}
use Rattle.scan.proofs.Riding.{riding_start, work_fits, riding_step}
use Rattle.scan.proofs.routes.ride.Goals as goal

pub loop-r-init : goal.loop-r-init
unfolding mark
loop-r-init c = riding_start _ _ _ (λ s h. omega (arith, c.type_inv.reach s))

pub overflow_add-work : goal.overflow_add-work
overflow_add-work c =
    omega (arith, work_fits _ _ _ c.requires c.loop-r.invariant c.loop-r-test.true c.extent_of.ensures c.look_at-work.ensures)

pub loop-r-preserved : goal.loop-r-preserved
loop-r-preserved c =
    riding_step _ _ _ c.requires c.loop-r.invariant c.loop-r-test.true c.extent_of.ensures c.look_at-work.ensures
