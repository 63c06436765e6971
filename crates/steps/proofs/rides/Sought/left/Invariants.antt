-- `steps::rides::Sought::left` meets its contract. The loop keeps that no leaving position below l ends at the stop in time.
use Rattle.laws.proofs.Found.{Nothing}
use Rattle.paper.specs.Timetable.{lent}
use Rattle.steps.proofs.Search.{on_leave}
use Rattle.steps.proofs.rides.Sought.left.Given as goal

abbrev pub invariant-loop-l : goal.invariant-loop-l
invariant-loop-l l = Nothing (on_leave (lent l.self.tables) l.self.row.now l.self.way.stop l.self.way.seconds l.self.v l.self.way.after l.r l.j) l.l
