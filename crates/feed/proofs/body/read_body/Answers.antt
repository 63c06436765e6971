-- `feed::body::read_body` meets its contract: what the two clearings leave.
use mathlib.Core.Path.{sym, ◌∙◌}
use Rattle.feed.proofs.Clearing.{leaves_cleared, leaves_filled}
use Rattle.feed.proofs.body.read_body.Goals as goal

pub returns-then-is_err-clause-leaves : goal.returns-then-is_err-clause-leaves
returns-then-is_err-clause-leaves c =
    leaves_cleared c.clear.ensures _ (sym c.is_err.ensures.value ∙ c.if-is_err.true) c.fill-read.ensures
    c.clear-then-is_err.ensures

pub returns-else-is_err-clause-leaves : goal.returns-else-is_err-clause-leaves
returns-else-is_err-clause-leaves c =
    leaves_filled c.clear.ensures _ (sym c.is_err.ensures.value ∙ c.if-is_err.false) c.fill-read.ensures
