use mathlib.Core.Path.{sym}
use native.Mathlib.Nat.{le_antisymm}
use Rattle.laws.proofs.Found.{first_found_is, nothing_end}
use Rattle.paper.specs.Tie.{route_first}
use Rattle.steps.proofs.rides.Sought.ride.Goals as goal

pub returns-in-Some : goal.returns-in-Some
unfolding route_first
returns-in-Some c = sym (first_found_is _ _ _ c.loop-r-test.true (sym c.in-Some.ensures) c.loop-r.invariant)

pub returns : goal.returns
unfolding route_first
returns c = sym (nothing_end _ _ _ (le_antisymm c.loop-r.auto.r-end c.loop-r-test.false) c.loop-r.invariant)
