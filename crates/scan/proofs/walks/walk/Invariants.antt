-- `scan::walks::walk` meets its contract. The loop's invariant is `Walking`.
use Rattle.paper.specs.Timetable.{lent}
use Rattle.scan.proofs.Walking.{Walking}
use Rattle.scan.proofs.walks.walk.Given as goal

abbrev pub invariant-loop-w : goal.invariant-loop-w
invariant-loop-w l = Walking (lent l.tables) l.reach l.initial.next l.next l.looked l.w
