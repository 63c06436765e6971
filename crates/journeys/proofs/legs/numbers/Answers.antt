-- `journeys::legs::numbers` meets its contract.
use mathlib.Core.Path.{◌≡◌, refl}
use Rattle.std.specs.Prelude.{Option, Some, None, ℕ}
use Rattle.std.specs.Option.{unwrap_or}
use Rattle.laws.specs.Below.{mark}
use Rattle.paper.specs.Tie.{walked_to}
use Rattle.journeys.proofs.legs.numbers.Goals as goal

walked : (after : Option ℕ) → unwrap_or after 4294967295 ≡ walked_to after
unfolding mark
walked None = refl
walked (Some s) = refl

pub returns : goal.returns
returns c = rw (c.unwrap_or-to.ensures, walked)
