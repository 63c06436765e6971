use borrow.Author.Rules.{rules}
use Rattle.paper.specs.Timetable.{lent}
use Rattle.sending.proofs.Put.{sizing_start, sizing_step, sizing_end}
use Rattle.sending.proofs.size_of.Goals as goal

pub loop-r-init : goal.loop-r-init
loop-r-init c = sizing_start (lent c.args.tables) c.args.tables.heads.routes

pub loop-r-preserved : goal.loop-r-preserved
loop-r-preserved c = sizing_step c.requires c.loop-r.invariant (search rules) c.route_size-size.ensures

pub returns : goal.returns
returns c = sizing_end c.args.tables.heads.walks c.loop-r.invariant (search rules)
