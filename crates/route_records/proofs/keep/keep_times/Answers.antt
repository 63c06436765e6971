use mathlib.Core.Path.{refl}
use native.Mathlib.Omega.{arith}
use Rattle.laws.proofs.Lists.{written_none, written_store}
use Rattle.paper.specs.Reading.{times_at}
use Rattle.route_records.proofs.Held.{put_all}
use Rattle.route_records.proofs.keep.keep_times.Goals as goal

pub loop-i-init : goal.loop-i-init
loop-i-init c = (written_none _ _ _, written_none _ _ _)

pub loop-i-preserved : goal.loop-i-preserved
loop-i-preserved c =
    let h = c.loop-i.invariant in
    let r = c.requires in (
      written_store _ _ _ _ h.0 refl c.three_at.ensures.is (omega (arith, r.arrivals.room)),
      written_store _ _ _ _ h.1 refl c.three_at-in-loop-i.ensures.is (omega (arith, r.departures.room)),
    )

pub returns-clause-arrivals : goal.returns-clause-arrivals
unfolding times_at
returns-clause-arrivals c = put_all _ _ _ _ c.requires.arrivals.room c.loop-i.invariant.0 (omega arith)

pub returns-clause-departures : goal.returns-clause-departures
unfolding times_at
returns-clause-departures c = put_all _ _ _ _ c.requires.departures.room c.loop-i.invariant.1 (omega arith)
