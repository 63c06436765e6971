-- `sending::records::put_stops` meets its contract: the loop keeps the stops so far.
use lib.ListN.{take}
use Rattle.sending.specs.Puts.{Sent}
use Rattle.sending.proofs.records.put_stops.Given as goal

abbrev pub invariant-loop-stop : goal.invariant-loop-stop
invariant-loop-stop l = Sent (take l.stop-index l.stops) l.initial.pen l.pen
