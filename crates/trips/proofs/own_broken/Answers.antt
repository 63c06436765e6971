-- `trips::own_broken`: the tests are the definition's.
use mathlib.Core.Path.{refl}
use Rattle.trips.specs.Places.{own_broken}
use Rattle.trips.proofs.own_broken.Goals as goal

pub returns : goal.returns
unfolding own_broken
returns c = refl
