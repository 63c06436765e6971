use Rattle.closure.proofs.Begins.{begun_next}
use Rattle.closure.proofs.begins_of.Goals as goal

pub loop-s-preserved : goal.loop-s-preserved
loop-s-preserved c = begun_next _ c.requires _ _ _ c.loop-s.invariant c.loop-s-test.true c.begin_from-k.ensures
