use mathlib.Core.Path.{sym, ◌∙◌}
use native.Mathlib.Nat.{le_antisymm}
use Rattle.steps.specs.Rides.{Looking}
use Rattle.steps.proofs.Search.{visits_in, not_visited, trip_none, trip_some}
use Rattle.paper.specs.Timetable.{lent}
use Rattle.steps.proofs.rides.Sought.on_route.Goals as goal
use Rattle.steps.proofs.rides.Sought.on_route.Goals.{After-extent_of-route}

look : (c : After-extent_of-route)
    → Looking (lent c.args.self.tables) c.args.self.row.now c.args.r c.extent_of-route.result
look c = record {
  fit = c.requires.seeking.fit;
  labelled = c.requires.seeking.labelled;
  route< = c.requires.route;
  extent = c.extent_of-route.ensures;
}

pub visits-requires : goal.visits-requires
visits-requires c = visits_in (look (goal.at.visits-requires c).After-extent_of-route)

pub returns-in_err-visits : goal.returns-in_err-visits
returns-in_err-visits c =
    let at = look (goal.at.returns-in_err-visits c).After-extent_of-route in
    c.from_residual.ensures ∙ sym (not_visited at _ _ _ _ c.in_err-visits.ensures)

pub returns-in-Some : goal.returns-in-Some
returns-in-Some c =
    let at = look (goal.at.returns-in-Some c).After-extent_of-route in
    trip_some at _ _ _ _ _ c.loop-j-test.true c.loop-j.invariant (sym c.in-Some.ensures)

pub returns : goal.returns
returns c =
    let at = look (goal.at.returns c).After-extent_of-route in
    trip_none at _ _ _ _ _ (le_antisymm c.loop-j.auto.j-end c.loop-j-test.false) c.loop-j.invariant
