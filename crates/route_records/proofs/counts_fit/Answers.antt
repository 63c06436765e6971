-- `route_records::counts_fit` meets its contract: the same tests.
use mathlib.Core.Path.{refl}
use Rattle.paper.specs.Rules.{counted}
use Rattle.route_records.proofs.counts_fit.Goals as goal

pub returns : goal.returns
unfolding counted
returns c = refl
