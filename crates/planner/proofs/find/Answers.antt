-- `planner::find` meets its contract: each refusal in its order, or the search.
use Rattle.std.proofs.lemmas.Result.{err_from_is_err_and}
use Rattle.paper.specs.Timetable.{lent}
use Rattle.paper.specs.Reply.{question_broken}
use Rattle.planner.proofs.Paths.{by_short, full, by_fault, by_question, ready}
use Rattle.planner.proofs.find.Goals as goal

pub returns-in_err-short_table : goal.returns-in_err-short_table
returns-in_err-short_table c =
    let p = err_from_is_err_and c.from_residual.result c.from_residual.ensures.1 in
    rw (p.1, p.2) (by_short (lent c.args.tables) _ _ _ c.in_err-short_table.ensures)

pub fault_of-requires : goal.fault_of-requires
fault_of-requires c = full (lent c.args.tables) _ _ c.args.q c.in_ok-short_table.ensures

pub returns-in_err-fault_of : goal.returns-in_err-fault_of
returns-in_err-fault_of c =
    let r = c.from_residual-in_err-fault_of in
    let p = err_from_is_err_and r.result r.ensures.1 in
    rw (p.1, p.2) (by_fault (lent c.args.tables) _ _ _ c.in_ok-short_table.ensures c.in_err-fault_of.ensures)

pub returns-then-question_broken : goal.returns-then-question_broken
unfolding question_broken
returns-then-question_broken c =
    rw c.at.ensures
    (by_question (lent c.args.tables) _ _ _ c.in_ok-short_table.ensures c.in_ok-fault_of.ensures
    c.question_broken.ensures c.if-question_broken.true)

pub search-requires : goal.search-requires
unfolding question_broken
search-requires c =
    ready (lent c.args.tables) _ _ _ c.in_ok-short_table.ensures c.in_ok-fault_of.ensures
    c.question_broken.ensures c.if-question_broken.false
