-- `steps::rides::Sought::on_route` meets its contract. The loop keeps that no trip below j has a ride.
use Rattle.laws.proofs.Found.{Nothing}
use Rattle.steps.specs.Rides.{left_by}
use Rattle.steps.proofs.rides.Sought.on_route.Given as goal

abbrev pub invariant-loop-j : goal.invariant-loop-j
invariant-loop-j l = Nothing (left_by l.self l.r) l.j
