-- `networks::dice::draw` meets its contract: a seed has 31 bits, so that its product with a number of 32 bits fits.
use native.Mathlib.Omega.{arith}
use native.Mathlib.Nat.{mul-le-mul}
use Prim.Native.Nat.{ℕ, ◌+◌, ◌*◌, ◌≤◌}
use Rattle.networks.proofs.dice.draw.Goals as goal

product : (a m : ℕ) → a ≤ 2147483647 → a * (m + 1) ≤ 2147483647 * (m + 1)
product a m ha = let hm : m + 1 ≤ m + 1 = omega arith in mul-le-mul ha hm

pub overflow_mul-result : goal.overflow_mul-result
overflow_mul-result c = omega (arith, product c.part.result c.args.most (omega arith))

pub overflow_cast-result-3 : goal.overflow_cast-result-3
overflow_cast-result-3 c = omega (arith, product c.part.result c.args.most (omega arith))

pub returns : goal.returns
returns c = omega (arith, product c.part.result c.args.most (omega arith))
