-- `closure::begin_from`: the walks passed are from stops before s.
use Prim.Native.Nat.{◌≤◌, ◌-◌}
use Rattle.laws.proofs.Below.{Passed}
use Rattle.paper.specs.Timetable.{lent}
use Rattle.closure.proofs.Begins.{not_before}
use Rattle.closure.proofs.begin_from.Given as goal

abbrev pub invariant-loop-w : goal.invariant-loop-w
invariant-loop-w l =
    (l.w ≤ l.tables.heads.walks) × Passed (not_before (lent l.tables) l.s) l.w

abbrev pub decreases-loop-w : goal.decreases-loop-w
decreases-loop-w l =
    l.tables.heads.walks - l.w
