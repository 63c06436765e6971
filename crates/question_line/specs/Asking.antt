-- What reading the line finds, one field after the other.
use Rattle.std.specs.Prelude.{cond, ◌&&◌, List, [], ◌∷◌, ℕ, ◌+◌, ◌*◌, ◌-◌, eqb, ltb, drop, Option, Some, None}
use Rattle.paper.specs.Lines.{is_digit}

-- the number that began at `from`, with the value x before place i where bs stand, and the place past the byte `stop` at which it ends
unfoldable pub field_from : ℕ → ℕ → ℕ → ℕ → List ℕ → Option (ℕ × ℕ)
field_from stop from i x [] = None
field_from stop from i x (b ∷ bs) =
    cond (eqb b stop) (cond (ltb from i) (Some (x, i + 1)) None)
    (cond (is_digit b && ltb (x * 10 + (b - 48)) 4294967296) (field_from stop from (i + 1) (x * 10 + (b - 48)) bs) None)

-- the number at `at` of the input
abbrev pub field_at : List ℕ → ℕ → ℕ → Option (ℕ × ℕ)
field_at input at stop = field_from stop at at 0 (drop at input)
