-- `closure::begins_of`: the array has the begins of the stops passed.
use Prim.Native.Nat.{◌-◌}
use Rattle.paper.specs.Timetable.{lent}
use Rattle.closure.proofs.Begins.{Begun}
use Rattle.closure.proofs.begins_of.Given as goal

abbrev pub invariant-loop-s : goal.invariant-loop-s
invariant-loop-s l =
    Begun (lent l.tables) l.s l.k l.begins

abbrev pub decreases-loop-s : goal.decreases-loop-s
decreases-loop-s l =
    257 - l.s
