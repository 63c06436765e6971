-- `planner::search` meets its contract: 13, 14 or the answer.
use Rattle.planner.proofs.Paths.{fit, good, by_budget, within_budget, by_nothing, by_entries}
use Rattle.planner.proofs.search.Goals as goal

pub run-requires : goal.run-requires
run-requires c = record { fit = fit _ _ _ _ c.requires; good = good _ _ _ _ c.requires; room = c.requires.labels≥ }

pub read_back-listed-requires : goal.read_back-listed-requires
read_back-listed-requires c = within_budget _ _ _ _ c.requires c.in-Ok.ensures.answer_is c.in-Ok.ensures.labels_are

pub returns-in-Err : goal.returns-in-Err
returns-in-Err c = by_budget _ _ _ _ c.requires c.in-Err.ensures.answer_is c.in-Err.ensures.labels_are c.clear.ensures

pub returns-then-listed-eq0 : goal.returns-then-listed-eq0
returns-then-listed-eq0 c =
    let ran = c.in-Ok.ensures in
    rw c.at.ensures
    (by_nothing _ _ _ _ c.requires ran.answer_is ran.labels_are c.read_back-listed.ensures c.if-listed-eq0.true)

pub returns-else-listed-eq0 : goal.returns-else-listed-eq0
returns-else-listed-eq0 c =
    let ran = c.in-Ok.ensures in
    by_entries _ _ _ _ c.requires ran.answer_is ran.labels_are c.read_back-listed.ensures c.if-listed-eq0.false
