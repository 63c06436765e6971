-- `packing::put_entries` meets its contract: the loop keeps the count and the first i pairs.
use Rattle.packing.proofs.Entries.{Storing}
use Rattle.packing.proofs.put_entries.Given as goal

abbrev pub invariant-loop-i : goal.invariant-loop-i
invariant-loop-i l = Storing l.count l.entry-items l.initial.entries l.entries l.i
