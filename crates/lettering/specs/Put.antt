-- What a function that prints promises: xs stands in the buffer from `at` on, all else is as it was.
use Rattle.std.specs.Prelude.{◌≡◌, List, ◌++◌, ℕ, ◌+◌, ◌≤◌, length, take, drop}
use Rattle.lettering.specs.declared.Pen.{Pen}

-- d is the buffer before, e after, r the place past xs, and `most` a bound on the length of xs
pub record Put (xs : List ℕ) (most at : ℕ) (d e : List ℕ) (r : ℕ) : Type 0 where
  pub is : e ≡ take at d ++ (xs ++ drop r d)
  pub next : r ≡ at + length xs
  pub bound : r ≤ at + most
  pub fits : r ≤ length d
  pub keeps : length e ≡ length d

-- there is room for n bytes more
abbrev pub HasRoom : ℕ → Pen → Type 0
HasRoom n p = p.at + n ≤ length p.out.now

-- xs was put with the pen, which has gone on by its length, in the same buffer
pub record Wrote (xs : List ℕ) (most : ℕ) (p q : Pen) : Type 0 where
  pub put : Put xs most p.at p.out.now q.out.now q.at
  pub same : q.out.ghost_name ≡ p.out.ghost_name
