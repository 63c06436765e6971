-- `printer::reply` meets its contract: the refusal of the feed, or the question asked of its timetable.
use Rattle.std.proofs.Common.{rules}
use Rattle.printer.proofs.Paths.{refused_says, accepted_says}
use Rattle.printer.proofs.reply.Goals as goal

pub returns-in-Err : goal.returns-in-Err
returns-in-Err c = refused_says _ _ c.read.ensures.leaves c.in-Err.is c.refuse.ensures

pub returns-in-Ok : goal.returns-in-Ok
returns-in-Ok c = accepted_says _ _ c.read.ensures.leaves c.in-Ok.is c.answer.ensures (search rules)
