-- `journeys::read_back` meets its contract. The loop keeps the entries and the legs of the rows below k.
use Rattle.paper.specs.Timetable.{lent}
use Rattle.journeys.proofs.Listing.{Listing}
use Rattle.journeys.proofs.read_back.Given as goal

abbrev pub invariant-loop-k : goal.invariant-loop-k
invariant-loop-k l = Listing (lent l.tables) l.q l.labels l.initial.legs l.legs l.listed l.best l.k
