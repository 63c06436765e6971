-- The sum's two numbers within a block, where no remainder is taken.
use Rattle.std.specs.Prelude.{List, ℕ, ◌+◌, ◌*◌, ◌≤◌, length}
use Rattle.paper.specs.declared.Sum.{Sum}
use Rattle.checksum.specs.Small.{Small}

-- no more than k bytes can make of a small sum: 1,044,734 is what the first can reach in 4,096 bytes
pub record Raw (k : ℕ) (s : Sum) : Type 0 where
  pub first≤ : s.first ≤ 254 + 255 * k
  pub second≤ : s.second ≤ 254 + 1044734 * k

-- a byte more
abbrev pub added : Sum → ℕ → Sum
added s b = record { first = s.first + b; second = s.second + (s.first + b) }

-- what a block begins with
pub record Block (s : Sum) (bytes : List ℕ) : Type 0 where
  pub small : Small s
  pub short : length bytes ≤ 4096
