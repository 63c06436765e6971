-- What the code holds while it reads walks, and all records together, tied to 01's reading.
use Rattle.std.specs.Prelude.{◌≡◌, ⊤, cond, List, [], ℕ, ◌+◌, ◌≤◌, ◌<◌, length, take, eqb, Result, Ok, Err}
use Rattle.laws.specs.Below.{iterate}
use Rattle.laws.specs.Lists.{over}
use Rattle.laws.specs.Fields.{two}
use Rattle.paper.specs.Reading.{Walks, next_walk, ended, Whole}
use Rattle.paper.specs.declared.Refusal.{Refusal}
use Rattle.paper.specs.declared.Room.{Room}
use Rattle.route_records.specs.Keep.{Holds, Kept, Refused}
use Rattle.records.specs.declared.walks.WalksRead.{WalksRead}

-- ---- the walks

abbrev pub walks_of : WalksRead → List ℕ → Walks
walks_of s d = record { bad = 0; at = s.at; t5 = take s.used d }

-- the reading w is well, and r stands for it
pub record WalksWell (w : Walks) (r : WalksRead) : Type 0 where
  pub bad : w.bad ≡ 0
  pub at : r.at ≡ w.at
  pub walks : r.used ≡ length w.t5

abbrev pub WalksEnd : Walks → Result WalksRead Refusal → Type 0
WalksEnd w (Ok r) = WalksWell w r
WalksEnd w (Err x) = Refused w.bad w.at x

-- there is room for k elements more
pub record WalkRoom (e k : ℕ) (s : WalksRead) (f d : List ℕ) : Type 0 where
  pub within : s.at ≤ e
  pub feed : e + 4 ≤ length f
  pub small : e < 32768
  pub long5 : s.used + k ≤ length d

-- from s the reading w was reached, and r stands for it: with at most k elements more
pub record WalksOn (e k : ℕ) (s : WalksRead) (w : Walks) (r : Result WalksRead Refusal) (d₀ d : List ℕ) : Type 0 where
  pub within : w.at ≤ e
  pub walks : Holds s.used (s.used + k) w.t5 d₀ d
  pub end : WalksEnd w r

-- ---- all records

-- the end record may be looked for at `at`
pub record Near4 (f : List ℕ) (at : ℕ) : Type 0 where
  pub at≤ : at < 32768
  pub feed≤ : length f < 32768

-- the table d₀ has become d: xs in front, which is within the full size n, and the rest as it was
pub record Fills (n : ℕ) (xs d₀ d : List ℕ) : Type 0 where
  pub fits : length xs ≤ n
  pub is : d ≡ over xs d₀

-- what the end makes of the number with which the walks ended
abbrev pub last_bad : List ℕ → ℕ → ℕ → ℕ
last_bad f bad at = cond (eqb bad 0) (cond (ended f at) 0 3) bad

-- the walks and the end can be read from `at` on
pub record RestRoom (e at : ℕ) (f g : List ℕ) : Type 0 where
  pub within : at ≤ e
  pub feed : e + 4 ≤ length f
  pub small : length f < 32768
  pub walks≤ : two f 5 ≤ 512
  pub long5 : 1536 ≤ length g

-- the reading of all walks, from where the routes ended
abbrev pub walks_from : List ℕ → ℕ → ℕ → ℕ → Walks
walks_from f e bad at = iterate (two f 5) (next_walk f e) (record { bad = bad; at = at; t5 = [] })

-- a reading ended with this number at `at`, within what a place can be
abbrev pub EndsAt : ℕ → ℕ → Result ⊤ Refusal → Type 0
EndsAt bad at (Ok x) = bad ≡ 0
EndsAt bad at (Err x) = Refused bad at x

-- the walks w were read, and the end looked for
pub record RestDone (f : List ℕ) (w : Walks) (r : Result ⊤ Refusal) (g₀ g : List ℕ) : Type 0 where
  pub small : w.at < 32768
  pub end : EndsAt (last_bad f w.bad w.at) w.at r
  pub walks : Fills 1536 w.t5 g₀ g

-- the five tables hold what the reading of all records found
pub record Filled (w : Whole) (old new : Room) : Type 0 where
  pub routes : Fills 256 w.t1 old.routes.now new.routes.now
  pub positions : Fills 2048 w.t2 old.positions.now new.positions.now
  pub arrivals : Fills 2048 w.t3 old.arrivals.now new.arrivals.now
  pub departures : Fills 2048 w.t4 old.departures.now new.departures.now
  pub walks : Fills 1536 w.t5 old.walks.now new.walks.now
  pub kept : Kept old new

-- and the reading ended so
pub record Ended (w : Whole) (r : Result ⊤ Refusal) (old new : Room) : Type 0 where
  pub small : w.at < 32768
  pub end : EndsAt w.bad w.at r
  pub filled : Filled w old new

-- each lent table has its full size
pub record Full (room : Room) : Type 0 where
  pub long1 : 256 ≤ length room.routes.now
  pub long2 : 2048 ≤ length room.positions.now
  pub long3 : 2048 ≤ length room.arrivals.now
  pub long4 : 2048 ≤ length room.departures.now
  pub long5 : 1536 ≤ length room.walks.now

-- a feed of the right length, and tables to read it into
pub record BodyRoom (f : List ℕ) (room : Room) : Type 0 where
  pub feed≥ : 13 ≤ length f
  pub feed≤ : length f < 32768
  pub full : Full room
