-- What reading the head gives.
use Rattle.std.specs.Prelude.{◌≡◌, ⊤, ℕ, Result, Ok, Err}
use Rattle.paper.specs.Rules.{refusal}
use Rattle.paper.specs.Reading.{head_only}
use Rattle.paper.specs.declared.Refusal.{Refusal}

-- done where the number b is 0; else refused by it, at the place that goes with it
abbrev pub HeadDone : ℕ → Result ⊤ Refusal → Type 0
HeadDone b (Ok x) = b ≡ 0
HeadDone b (Err r) = (b ≡ 0 → ⊥) × (r ≡ refusal b (head_only b).at)
