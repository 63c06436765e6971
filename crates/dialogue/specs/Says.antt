-- What is promised of a buffer: lines in its front, and their length.
use Rattle.std.specs.Prelude.{◌≡◌, List, ℕ, ◌≤◌, length, take}
use Rattle.laws.specs.Lists.{over}

-- d is the buffer before, e after: xs stands in its front, all else is as it was; r is the length of xs, and within the buffer.
-- That its first r bytes are r follows; it is stated for the caller that takes them.
pub record Says (xs d e : List ℕ) (r : ℕ) : Type 0 where
  pub is : e ≡ over xs d
  pub long : r ≡ length xs
  pub within : r ≤ length e
  pub front : r ≡ length (take r e)
