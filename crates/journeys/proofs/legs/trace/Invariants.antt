-- `journeys::legs::trace` meets its contract. The loop keeps the legs from j on, and that there are legs below j.
use Rattle.paper.specs.Timetable.{lent}
use Rattle.journeys.proofs.Tracing.{Tracing}
use Rattle.journeys.proofs.legs.trace.Given as goal

abbrev pub invariant-loop-j : goal.invariant-loop-j
invariant-loop-j l = Tracing (lent l.tables) l.labels l.k l.target l.initial.legs l.legs l.p l.j
