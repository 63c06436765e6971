-- `trips::lowest_event`: nothing is broken in the routes passed.
use Rattle.laws.proofs.Found.{Nothing}
use Rattle.paper.specs.Timetable.{lent}
use Rattle.trips.proofs.Routes.{broken}
use Rattle.trips.proofs.lowest_event.Given as goal

abbrev pub invariant-loop-r : goal.invariant-loop-r
invariant-loop-r l = Nothing (broken (lent l.tables) l.sought) l.r
