-- `checksum::block` meets its contract: the loop keeps `Within`.
use Rattle.checksum.proofs.Within.{Within}
use Rattle.checksum.proofs.block.Given as goal

abbrev pub invariant-loop-byte : goal.invariant-loop-byte
invariant-loop-byte l = Within l.initial.raw l.bytes l.raw l.byte-index
