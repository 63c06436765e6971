-- What 11 needs, and the two helps by which it is quick: where each stop's walks begin, and the seconds from one stop.
use Rattle.std.specs.Prelude.{◌≡◌, List, ℕ, ◌+◌, ◌≤◌, ◌<◌, leb, length, get_or}
use Rattle.laws.specs.Below.{first_below}
use Rattle.paper.specs.Timetable.{Tables, walk_from, walk_to, walk_seconds}
use Rattle.paper.specs.Rules.{WalkRight, Via}
use Rattle.paper.proofs.Places.{Rising}

-- table 5, and 10 is unbroken
pub record Walked (T : Tables) : Type 0 where
  pub stops≤ : T.stops ≤ 256
  pub walks≤ : T.walks ≤ 512
  pub long : 1536 ≤ length T.t5
  pub walk : (w : ℕ) → w < T.walks → WalkRight T w
  pub rising : (w : ℕ) → w + 1 < T.walks → Rising T w (w + 1)

-- the first walk from stop s or a later one
unfoldable pub begin_of : Tables → ℕ → ℕ
begin_of T s = first_below T.walks λ w. leb s (walk_from T w)

-- the walks below k are all from stops before s
pub record BeginsPast (T : Tables) (s k : ℕ) : Type 0 where
  pub walks≤ : T.walks ≤ 512
  pub long : 1536 ≤ length T.t5
  pub upto : k ≤ T.walks
  pub past : (w : ℕ) → w < k → walk_from T w < s

pub record Begins (T : Tables) (xs : List ℕ) : Type 0 where
  pub long : length xs ≡ 257
  pub is : (s : ℕ) → s < 257 → get_or xs s 0 ≡ begin_of T s

-- for each stop the seconds of the walk from a to it: 0 to itself, and the mark where there is none
pub record SecondsFrom (T : Tables) (a : ℕ) (xs : List ℕ) : Type 0 where
  pub long : length xs ≡ 256
  pub every : (w : ℕ) → w < T.walks → walk_from T w ≡ a → get_or xs (walk_to T w) 0 ≡ walk_seconds T w
  pub self : get_or xs a 0 ≡ 0
  pub only : (c : ℕ) → c < 256 → (c ≡ a → ⊥) → get_or xs c 0 < 4294967295 → Via T a c (get_or xs c 0)

pub record FromStop (T : Tables) (begins : List ℕ) (a : ℕ) : Type 0 where
  pub walked : Walked T
  pub starts : Begins T begins
  pub stop : a < 256

pub record OnWalk (T : Tables) (begins seconds : List ℕ) (v : ℕ) : Type 0 where
  pub walked : Walked T
  pub starts : Begins T begins
  pub below : v < T.walks
  pub near : SecondsFrom T (walk_from T v) seconds
