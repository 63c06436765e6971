-- `rounds::round` meets its contract: what `ride`, `walk` and `write_row` give makes the round.
use native.Mathlib.Omega.{arith}
use Rattle.laws.specs.Below.{mark}
use Rattle.scan.proofs.Fitting.{rideable}
use Rattle.rounds.proofs.Rounding.{row_long, work_few, round_done}
use Rattle.rounds.proofs.round.Goals as goal

pub ride-rides-requires : goal.ride-rides-requires
ride-rides-requires c = rideable _ c.requires.fit _ (row_long _ _ _ c.requires)

pub overflow_add-result : goal.overflow_add-result
unfolding mark
overflow_add-result c =
    omega (arith, work_few _ _ _ c.requires c.ride-rides.ensures c.walk-steps.ensures)

pub returns : goal.returns
unfolding mark
returns c =
    round_done _ _ _ c.requires c.ride-rides.ensures c.walk-steps.ensures c.write_row-improved.ensures
