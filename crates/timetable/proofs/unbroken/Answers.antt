use Rattle.paper.specs.Rules.{refused_by}
use Rattle.timetable.proofs.unbroken.Goals as goal

pub returns-in-Some : goal.returns-in-Some
unfolding refused_by
returns-in-Some c = rw (c.in-Some.is, c.at.ensures)

pub returns-in-None : goal.returns-in-None
unfolding refused_by
returns-in-None c = rw c.in-None.is
