-- `answer_lines::put_entries` meets its contract: the loop keeps `Along`.
use lib.ListN.{length, get_or}
use Rattle.paper.specs.Reply.{zero_entry}
use Rattle.paper.specs.Lines.{entry_lines}
use Rattle.lettering.proofs.Puts.{Along}
use Rattle.answer_lines.proofs.put_entries.Given as goal

abbrev pub invariant-loop-entry : goal.invariant-loop-entry
invariant-loop-entry l =
    Along (λ k. entry_lines l.legs (get_or l.entries k zero_entry)) 475 (length l.entries) l.initial.pen l.pen l.entry-index
