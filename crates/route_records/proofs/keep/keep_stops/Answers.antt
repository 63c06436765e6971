use mathlib.Core.Path.{refl}
use native.Mathlib.Omega.{arith}
use Rattle.laws.proofs.Lists.{written_none, written_store}
use Rattle.paper.specs.Reading.{stops_at}
use Rattle.route_records.proofs.Held.{put_all}
use Rattle.route_records.proofs.keep.keep_stops.Goals as goal

pub loop-i-init : goal.loop-i-init
loop-i-init c = written_none _ _ _

pub loop-i-preserved : goal.loop-i-preserved
loop-i-preserved c = written_store _ _ _ _ c.loop-i.invariant refl refl (omega (arith, c.requires.room))

pub returns : goal.returns
unfolding stops_at
returns c = put_all _ _ _ _ c.requires.room c.loop-i.invariant (omega arith)
