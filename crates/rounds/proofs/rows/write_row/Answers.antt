use Rattle.rounds.proofs.Writing.{improves_now, improves_not, writing_start, writing_step}
use Rattle.rounds.proofs.rows.write_row.Goals as goal
use Rattle.rounds.proofs.rows.write_row.Goals.{then-new-old, else-new-old}

pub loop-s-init : goal.loop-s-init
loop-s-init c = writing_start _ _ _ _ _

pub loop-s-preserved : goal.loop-s-preserved
loop-s-preserved c =
    writing_step _ _ _ _ _ c.requires c.loop-s.invariant c.loop-s-test.true c.min-new.ensures c.min.ensures
    (elim c.if-new-old.branch [
      | then-new-old w ↦ rw w.improved-is (improves_now w.if-new-old.true)
      | else-new-old w ↦ rw w.improved-is (improves_not w.if-new-old.false)
    ])
