-- Where a record may be looked for.
use Rattle.std.specs.Prelude.{List, ℕ, ◌+◌, ◌≤◌, ◌<◌, length}

-- a record of k bytes may be looked for at `at`, before e
pub record Near (f : List ℕ) (e at k : ℕ) : Type 0 where
  pub within : e ≤ length f
  pub small : at + k < 65536
  pub mark : 2 ≤ k
