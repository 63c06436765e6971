-- A field of a feed, as it is read.
use Rattle.std.specs.Prelude.{◌≡◌, ℕ, ◌<◌}

-- r is the value, below the bound
pub record Field (value bound r : ℕ) : Type 0 where
  pub is : r ≡ value
  pub small : r < bound
