-- What printing legs wants: room in the buffer and the legs in their table.
use Rattle.std.specs.Prelude.{List, ◌∷◌, ◌++◌, ℕ, ◌+◌, ◌≤◌, length}
use Rattle.paper.specs.Lines.{space, decimal}
use Rattle.lettering.specs.Put.{HasRoom}
use Rattle.lettering.specs.declared.Pen.{Pen}

-- the four numbers of a leg's ride, as they stand in its line
abbrev pub ride_words : ℕ → ℕ → ℕ → ℕ → List ℕ
ride_words route trip board leave = decimal route ++ (space ∷ decimal trip) ++ (space ∷ decimal board) ++ (space ∷ decimal leave)

-- what printing the leg at `from` wants
pub record LegRoom (from : ℕ) (legs : List ℕ) (p : Pen) : Type 0 where
  pub room : HasRoom 55 p
  pub leg : from + 5 ≤ length legs

-- what printing the legs of an entry, or the entry, wants
pub record RidesRoom (most rides : ℕ) (legs : List ℕ) (p : Pen) : Type 0 where
  pub room : HasRoom most p
  pub table : 320 ≤ length legs
  pub few : rides ≤ 8
