-- `dialogue::answer` meets its contract: 12 for a line of another shape, else what `ask` answers, always printable.
use Rattle.paper.specs.Timetable.{lent}
use Rattle.dialogue.proofs.Said.{unread_says, asked_says}
use Rattle.dialogue.proofs.answer.Goals as goal

pub returns-in_default : goal.returns-in_default
returns-in_default c = unread_says (lent c.args.tables) c.in_default.ensures c.at.ensures c.refuse.ensures

pub returns : goal.returns
returns c =
    asked_says (lent c.args.tables) _ _ c.requires c.ask-found.ensures c.render.ensures c.unwrap_or.ensures
    c.in-Some.ensures
