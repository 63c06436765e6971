-- What the writer promises: 01's answer, and 01's bytes in the buffer.
use Rattle.std.specs.Prelude.{◌≡◌, List, ℕ, length, Result}
use Rattle.paper.specs.Timetable.{Tables}
use Rattle.paper.specs.Reply.{write_of, out_after}
use Rattle.paper.specs.declared.Refusal.{Refusal}

-- the answer and the buffer are what 01 says
pub record Sends (T : Tables) (r : Result ℕ Refusal) (d₀ d : List ℕ) : Type 0 where
  pub answer : r ≡ write_of T (length d₀)
  pub out : d ≡ out_after T d₀
