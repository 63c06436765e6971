-- `timetable::fault_of`: 5, and where it refuses nothing 7 to 11.
use Rattle.std.proofs.lemmas.Result.{err_from_is_err_and}
use Rattle.paper.specs.Rules.{fault_of}
use Rattle.timetable.proofs.Faults.{done_some, done_none, refused_first, passed_first}
use Rattle.timetable.proofs.fault_of.Goals as goal

pub returns-in_err-count_fault : goal.returns-in_err-count_fault
unfolding fault_of
returns-in_err-count_fault c =
    let p = err_from_is_err_and c.from_residual.result c.from_residual.ensures.1 in
    rw (p.1, p.2) (refused_first tt _ (done_some tt _ c.in_err-count_fault.ensures))

pub whole_fault-requires : goal.whole_fault-requires
whole_fault-requires c = record { full = c.requires; counts = done_none tt _ c.in_ok-count_fault.ensures }

pub returns : goal.returns
unfolding fault_of
returns c = passed_first tt _ (done_none tt _ c.in_ok-count_fault.ensures) c.whole_fault.ensures
