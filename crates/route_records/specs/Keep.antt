-- Elements put to a table, as the code puts them; and tables that are filled from the front.
use Rattle.std.specs.Prelude.{◌≡◌, List, ℕ, ◌+◌, ◌≤◌, ◌<◌, length}
use Rattle.laws.specs.Lists.{over}
use Rattle.paper.specs.Rules.{refusal}
use Rattle.paper.specs.declared.Refusal.{Refusal}
use Rattle.paper.specs.declared.Room.{Room}

-- `size` bytes stand at `at`, and the table d has room for n elements from k on
pub record CanPut (f : List ℕ) (at size : ℕ) (d : List ℕ) (k n : ℕ) : Type 0 where
  pub small : at + size < 65536
  pub there : at + size ≤ length f
  pub room : k + n ≤ length d

-- the table d has room for a route's row of these numbers at k
pub record CanPutRow (d : List ℕ) (k n m p v : ℕ) : Type 0 where
  pub room : k + 4 ≤ length d
  pub n< : n < 65536
  pub m< : m < 65536
  pub p< : p < 65536
  pub v< : v < 65536

-- the table d₀ has become d, as long as before: xs in front, from k to n elements, and the rest as it was
pub record Holds (k n : ℕ) (xs d₀ d : List ℕ) : Type 0 where
  pub grown : k ≤ length xs
  pub most : length xs ≤ n
  pub is : d ≡ over xs d₀
  pub kept : length d ≡ length d₀

-- the tables stay where they were lent
pub record Kept (old new : Room) : Type 0 where
  pub routes : new.routes.ghost_name ≡ old.routes.ghost_name
  pub positions : new.positions.ghost_name ≡ old.positions.ghost_name
  pub arrivals : new.arrivals.ghost_name ≡ old.arrivals.ghost_name
  pub departures : new.departures.ghost_name ≡ old.departures.ghost_name
  pub walks : new.walks.ghost_name ≡ old.walks.ghost_name

-- a reading that met a bad record is refused by its number, at its place
pub record Refused (bad at : ℕ) (x : Refusal) : Type 0 where
  pub met : bad ≡ 0 → ⊥
  pub is : x ≡ refusal bad at
