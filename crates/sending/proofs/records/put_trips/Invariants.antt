-- `sending::records::put_trips` meets its contract: the loop keeps `Sending`.
use Rattle.paper.specs.Timetable.{lent}
use Rattle.sending.proofs.Sent.{Sending}
use Rattle.sending.proofs.Put.{trip_at_row}
use Rattle.sending.proofs.records.put_trips.Given as goal

abbrev pub invariant-loop-j : goal.invariant-loop-j
invariant-loop-j l = Sending (trip_at_row (lent l.tables) l.n l.v) l.m l.initial.pen l.pen l.j
