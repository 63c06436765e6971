-- `steps::rides::Sought::boarded` meets its contract. The loop keeps that no boarding position below i is permitted.
use Rattle.laws.proofs.Found.{Nothing}
use Rattle.paper.specs.Timetable.{lent}
use Rattle.steps.proofs.Search.{on_board}
use Rattle.steps.proofs.rides.Sought.boarded.Given as goal

abbrev pub invariant-loop-i : goal.invariant-loop-i
invariant-loop-i l = Nothing (on_board (lent l.self.tables) l.self.row.now l.self.way.after l.r l.j l.l) l.i
