-- `sending::records::put_trip` meets its contract: the mark, then a loop that keeps `Sending`.
use Prim.Native.Nat.{◌+◌}
use Rattle.paper.specs.Timetable.{lent}
use Rattle.paper.specs.Feed.{event_bytes}
use Rattle.sending.proofs.Sent.{Sending}
use Rattle.sending.proofs.records.put_trip.Given as goal

abbrev pub invariant-loop-i : goal.invariant-loop-i
invariant-loop-i l = Sending (λ i. event_bytes (lent l.tables) (l.v + i)) l.n l.initial.pen l.pen l.i
