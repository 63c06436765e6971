-- `steps::seconds_to` meets its contract. The loop keeps the seconds by the walks below w; there is one walk at most between two stops.
use mathlib.Core.Path.{◌≡◌}
use Rattle.laws.specs.Lists.{tab}
use Rattle.steps.specs.Search.{seconds_below}
use Rattle.steps.proofs.seconds_to.Given as goal

abbrev pub invariant-loop-w : goal.invariant-loop-w
invariant-loop-w l = l.seconds ≡ tab 256 (seconds_below l.tables.walks.now l.p l.w)
