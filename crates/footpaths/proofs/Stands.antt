-- Where a walk stands in table 5.
use Prim.Native.Nat.{ℕ, ◌≤◌, ◌<◌}
use lib.ListN.{length}
use Rattle.paper.specs.Timetable.{Tables}

pub record Stands (T : Tables) (w : ℕ) : Type 0 where
  pub small : w < 512
  pub table : 1536 ≤ length T.t5
