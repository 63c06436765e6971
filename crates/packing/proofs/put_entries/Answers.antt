use Rattle.packing.proofs.Entries.{storing_start, storing_more, storing_end}
use Rattle.packing.proofs.put_entries.Goals as goal

pub loop-i-init : goal.loop-i-init
loop-i-init c = storing_start _ c.args.listed _ c.if-entries-lt19.false

pub loop-i-preserved : goal.loop-i-preserved
loop-i-preserved c = storing_more _ c.loop-i.invariant c.loop-i-test.true c.if-entries-lt19.false

pub returns : goal.returns
returns c = storing_end c.args.entries.now c.if-entries-lt19.false c.loop-i.invariant c.loop-i-test.false
