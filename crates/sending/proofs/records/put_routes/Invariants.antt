-- `sending::records::put_routes` meets its contract: the loop keeps `Sending`.
use Rattle.paper.specs.Timetable.{lent}
use Rattle.paper.specs.Feed.{route_bytes}
use Rattle.sending.proofs.Sent.{Sending}
use Rattle.sending.proofs.records.put_routes.Given as goal

abbrev pub invariant-loop-r : goal.invariant-loop-r
invariant-loop-r l = Sending (route_bytes (lent l.tables)) l.r-end l.initial.pen l.pen l.r
