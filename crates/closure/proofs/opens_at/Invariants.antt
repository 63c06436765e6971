-- `closure::opens_at`: the walks passed show no gap.
use Prim.Native.Nat.{◌-◌}
use Rattle.paper.specs.Timetable.{lent}
use Rattle.closure.proofs.Closure.{Following}
use Rattle.closure.proofs.opens_at.Given as goal

abbrev pub invariant-loop-w : goal.invariant-loop-w
invariant-loop-w l =
    Following (lent l.tables) l.v l.w l.wrong

abbrev pub decreases-loop-w : goal.decreases-loop-w
decreases-loop-w l =
    l.end - l.w
