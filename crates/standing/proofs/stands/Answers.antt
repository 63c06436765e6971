-- `standing::stands` meets its contract: the record fits, and begins with its mark.
use borrow.Author.Tests.{lt-leb}
use native.Mathlib.Omega.{arith}
use Rattle.paper.specs.Reading.{marked}
use Rattle.standing.proofs.Marks.{begins_stands}
use Rattle.standing.proofs.stands.Goals as goal

pub returns-then-e-at : goal.returns-then-e-at
unfolding marked
returns-then-e-at c = simp (lt-leb _ _ c.if-e-at.true)

pub returns : goal.returns
returns c =
    let r = c.requires in
    begins_stands _ _ _ _ _ _ r.within r.mark c.if-e-at.false (omega arith) (omega arith) c.begins.ensures
