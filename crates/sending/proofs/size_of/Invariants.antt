-- `sending::size_of` meets its contract: the loop keeps `Sizing`.
use Rattle.paper.specs.Timetable.{lent}
use Rattle.sending.proofs.Put.{Sizing}
use Rattle.sending.proofs.size_of.Given as goal

abbrev pub invariant-loop-r : goal.invariant-loop-r
invariant-loop-r l = Sizing (lent l.tables) l.r-end l.r l.size
