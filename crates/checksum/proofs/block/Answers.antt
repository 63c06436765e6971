use native.Mathlib.Omega.{arith}
use Rattle.checksum.proofs.Within.{within_step, within_end}
use Rattle.checksum.proofs.block.Goals as goal

pub loop-byte-preserved : goal.loop-byte-preserved
loop-byte-preserved c =
    within_step _ c.loop-byte.invariant c.loop-byte-test.true
    (omega (arith, c.type_inv.bytes c.loop-byte.byte-index)) c.step-raw.ensures

pub returns : goal.returns
returns c = within_end _ c.loop-byte.invariant c.loop-byte-test.false
