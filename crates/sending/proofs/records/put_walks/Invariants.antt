-- `sending::records::put_walks` meets its contract: the loop keeps `Sending`.
use Rattle.paper.specs.Timetable.{lent}
use Rattle.paper.specs.Feed.{walk_bytes}
use Rattle.sending.proofs.Sent.{Sending}
use Rattle.sending.proofs.records.put_walks.Given as goal

abbrev pub invariant-loop-w : goal.invariant-loop-w
invariant-loop-w l = Sending (walk_bytes (lent l.tables)) l.w-end l.initial.pen l.pen l.w
