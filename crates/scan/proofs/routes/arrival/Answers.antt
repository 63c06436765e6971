-- `scan::routes::arrival` meets its contract: the event of trip c < m at position i < n stands within the table.
use mathlib.Core.Path.{sym}
use borrow.Author.Tests.{lt-ltb, le-ltb}
use Rattle.laws.specs.Below.{mark}
use Rattle.laws.proofs.Below.{only_true, only_false}
use Rattle.scan.proofs.routes.arrival.Goals as goal
use Rattle.scan.proofs.routes.arrival.Goals.{Then-c-m}

pub returns-then-c-m : goal.returns-then-c-m
returns-then-c-m c = sym (only_true _ _ (lt-ltb _ _ c.if-c-m.true))

pub returns : goal.returns
unfolding mark
returns c = sym (only_false _ _ (le-ltb _ _ c.if-c-m.false))
