-- `filling::fill_from` meets its contract. The measure is the room left.
use Rattle.std.proofs.Common.{length, ◌-◌, ◌≤◌}
use Rattle.filling.proofs.fill_from.Given as goal

abbrev pub invariant-loop-n : goal.invariant-loop-n
invariant-loop-n g l = l.n ≤ length l.buffer

abbrev pub decreases-loop-n : goal.decreases-loop-n
decreases-loop-n g l = length l.buffer - l.n
