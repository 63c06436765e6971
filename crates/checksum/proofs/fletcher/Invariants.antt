-- `checksum::fletcher` meets its contract: the loop keeps `Along`.
use mathlib.Core.Path.{◌≡◌}
use Rattle.std.specs.Slice.Iter.{chunks_rest, chunks_size}
use Rattle.checksum.proofs.Along.{Along}
use Rattle.checksum.proofs.fletcher.Given as goal

abbrev pub invariant-loop-part : goal.invariant-loop-part
invariant-loop-part l = Along l.bytes l.s (chunks_rest l.part-iterator) × (chunks_size l.part-iterator ≡ 4096)
