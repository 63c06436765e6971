use Prim.Native.Nat.{◌+◌}
use mathlib.Core.Path.{refl, sym, ◌∙◌}
use Rattle.laws.proofs.Found.{nothing_more}
use Rattle.steps.proofs.last_step.Goals.{in-Some+in_default-ride, in_default}
use native.Mathlib.Omega.{arith}
use Rattle.steps.proofs.Stand.{walks_in}
use Rattle.steps.proofs.Search.{step_none, step_some, way_is}
use Rattle.steps.proofs.last_step.Goals as goal

pub seconds_to-from-requires : goal.seconds_to-from-requires
seconds_to-from-requires c = walks_in _ c.requires.fit

pub returns-in-Some-ride : goal.returns-in-Some-ride
returns-in-Some-ride c =
    step_some _ _ _ c.requires _ _ c.seconds_to-from.ensures _ c.loop-number-test.true c.loop-number.invariant
    (way_is _ _ _ _ _ _ _ c.in-Some.ensures c.in-Some-ride.ensures)

-- after the last way
pub returns-after-way_to : goal.returns-after-way_to
returns-after-way_to c =
    step_none _ _ _ c.requires _ _ c.seconds_to-from.ensures (c.loop-number.number + 1) (omega arith)
    (nothing_more _ _ c.loop-number.invariant
    (elim c.match-way_to.branch [
      | in-Some+in_default-ride w ↦ way_is _ _ _ _ _ _ _ w.in-Some.ensures (sym w.in_default-ride.is ∙ w.ride.ensures)
      | in_default w ↦ way_is _ _ _ _ _ _ _ (sym w.in_default.is ∙ c.way_to.ensures) refl
    ]))
