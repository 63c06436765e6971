-- `records::ends` meets its contract.
use borrow.Author.Tests.{eq-eqb, ne_eqb}
use Rattle.paper.specs.Reading.{ended}
use Rattle.records.proofs.ends.Goals as goal

pub returns-then-at-n : goal.returns-then-at-n
unfolding ended
returns-then-at-n c = simp (eq-eqb _ _ c.if-at-n.true) c.stands.ensures

pub returns-else-at-n : goal.returns-else-at-n
unfolding ended
returns-else-at-n c = simp (ne_eqb _ _ c.if-at-n.false)
