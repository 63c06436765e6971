-- `timetable::check`: what refuses the tables, or their limit.
use Rattle.std.proofs.lemmas.Result.{err_from_is_err_and}
use Rattle.laws.proofs.Checking.{or_else_nothing}
use Rattle.paper.specs.Timetable.{lent}
use Rattle.paper.specs.Rules.{fault_of}
use Rattle.paper.specs.Reply.{short_table, lengths_of, check_of}
use Rattle.timetable.specs.Fault.{tables_fault}
use Rattle.timetable.proofs.Faults.{done_some, done_none, counts_right, limit_lent}
use Rattle.timetable.proofs.Short.{full_of}
use Rattle.timetable.proofs.check.Goals as goal

pub returns-in_err-tables_fault : goal.returns-in_err-tables_fault
unfolding check_of tables_fault
returns-in_err-tables_fault c =
    let p = err_from_is_err_and c.from_residual.result c.from_residual.ensures.1 in
    rw (p.1, p.2) (rw (done_some tt _ c.in_err-tables_fault.ensures))

pub limit_of-requires : goal.limit_of-requires
unfolding tables_fault
limit_of-requires c =
    let t = lent c.args.tables in
    let n = or_else_nothing (short_table (lengths_of t)) (fault_of t) (done_none tt _ c.in_ok-tables_fault.ensures) in
    limit_lent t (counts_right t (full_of t n.0) n.1)

pub returns : goal.returns
unfolding check_of tables_fault
returns c = rw (done_none tt _ c.in_ok-tables_fault.ensures, c.limit_of.ensures)
