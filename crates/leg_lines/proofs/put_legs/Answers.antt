use Rattle.lettering.proofs.Puts.{along_start, along_step, along_end}
use borrow.Author.Rules.{rules}
use Rattle.leg_lines.proofs.put_legs.Goals as goal

pub loop-i-init : goal.loop-i-init
loop-i-init c = along_start _ _ _ (search rules)

pub loop-i-preserved : goal.loop-i-preserved
loop-i-preserved c = along_step c.loop-i.invariant (search rules) c.put_leg.ensures

pub returns : goal.returns
returns c = along_end 440 c.loop-i.invariant (search rules) (search rules)
