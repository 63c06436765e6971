-- `second::listed` is safe: each number of rides has at most one entry.
use Rattle.std.proofs.Common.{◌≤◌}
use Rattle.second.proofs.listed.Given as goal

abbrev pub invariant-loop-rides : goal.invariant-loop-rides
invariant-loop-rides l = l.answer.count ≤ l.rides
