-- `timetable::tables_fault`: 6 first.
use Rattle.std.proofs.lemmas.Result.{err_from_is_err_and}
use Rattle.paper.specs.Timetable.{lent}
use Rattle.timetable.specs.Fault.{tables_fault}
use Rattle.timetable.proofs.Faults.{done_some, done_none, refused_first, passed_first}
use Rattle.timetable.proofs.Short.{full_of}
use Rattle.timetable.proofs.tables_fault.Goals as goal

pub returns-in_err-short_table : goal.returns-in_err-short_table
unfolding tables_fault
returns-in_err-short_table c =
    let p = err_from_is_err_and c.from_residual.result c.from_residual.ensures.1 in
    rw (p.1, p.2) (refused_first _ _ (done_some tt _ c.in_err-short_table.ensures))

pub fault_of-requires : goal.fault_of-requires
fault_of-requires c = full_of (lent c.args.tables) (done_none tt _ c.in_ok-short_table.ensures)

pub returns : goal.returns
unfolding tables_fault
returns c = passed_first _ _ (done_none tt _ c.in_ok-short_table.ensures) c.fault_of.ensures
