-- `closure::seconds_from`: the array has the seconds of the walks passed.
use Prim.Native.Nat.{◌-◌}
use Rattle.paper.specs.Timetable.{lent}
use Rattle.closure.proofs.Seconds.{Near}
use Rattle.closure.proofs.seconds_from.Given as goal

abbrev pub invariant-loop-w : goal.invariant-loop-w
invariant-loop-w l =
    Near (lent l.tables) l.a l.w l.seconds

abbrev pub decreases-loop-w : goal.decreases-loop-w
decreases-loop-w l =
    l.end - l.w
