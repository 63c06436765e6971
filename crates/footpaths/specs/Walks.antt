-- What rule 10's functions need.
use Rattle.std.specs.Prelude.{ℕ, ◌≤◌, ◌<◌, length}
use Rattle.paper.specs.Timetable.{Tables}

-- table 5 and the head counts, before the walks are tested
pub record WalksLent (T : Tables) : Type 0 where
  pub walks≤ : T.walks ≤ 512
  pub long : 1536 ≤ length T.t5

pub record AtWalk (T : Tables) (w : ℕ) : Type 0 where
  pub lent : WalksLent T
  pub below : w < T.walks
