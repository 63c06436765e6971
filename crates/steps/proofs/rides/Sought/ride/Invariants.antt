-- `steps::rides::Sought::ride` meets its contract. The loop keeps that no route below r has a ride.
use Rattle.laws.proofs.Found.{Nothing}
use Rattle.steps.specs.Rides.{trip_by}
use Rattle.steps.proofs.rides.Sought.ride.Given as goal

abbrev pub invariant-loop-r : goal.invariant-loop-r
invariant-loop-r l = Nothing (trip_by l.self) l.r
