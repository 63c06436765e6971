-- `closure::lowest_open`: the walks passed are closed, and the array is that of the stop looked at.
use Prim.Native.Nat.{◌-◌}
use Rattle.paper.specs.Timetable.{lent}
use Rattle.closure.proofs.Closure.{Looking}
use Rattle.closure.proofs.lowest_open.Given as goal

abbrev pub invariant-loop-v : goal.invariant-loop-v
invariant-loop-v l =
    Looking (lent l.tables) l.v l.from l.seconds

abbrev pub decreases-loop-v : goal.decreases-loop-v
decreases-loop-v l =
    l.tables.heads.walks - l.v
