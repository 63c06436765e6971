use mathlib.Core.Path.{◌∙◌}
use Rattle.steps.proofs.Seconds.{seconds_start, seconds_keep, seconds_store, seconds_end}
use native.Mathlib.Omega.{arith}
use Rattle.steps.proofs.seconds_to.Goals as goal
use Rattle.steps.proofs.seconds_to.Goals.{then-tables-at, else-tables-at}

pub loop-w-init : goal.loop-w-init
loop-w-init c = seconds_start _ _

pub loop-w-preserved : goal.loop-w-preserved
loop-w-preserved c =
    let so_far = c.loop-w.invariant in
    elim c.if-tables-at.branch [
      | then-tables-at w ↦ w.seconds-is ∙ seconds_store _ _ _ _ c.requires c.loop-w-test.true so_far w.if-tables-at.true
      | else-tables-at w ↦ w.seconds-is ∙ seconds_keep _ _ _ _ c.requires c.loop-w-test.true so_far w.if-tables-at.false
    ]

pub returns : goal.returns
returns c = seconds_end _ _ _ _ (omega arith) c.loop-w.invariant
