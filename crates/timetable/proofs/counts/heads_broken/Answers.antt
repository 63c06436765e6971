-- `timetable::counts::heads_broken`: the four tests are the definition's.
use mathlib.Core.Path.{refl}
use Rattle.paper.specs.Rules.{heads_broken}
use Rattle.timetable.proofs.counts.heads_broken.Goals as goal

pub returns : goal.returns
unfolding heads_broken
returns c = refl
