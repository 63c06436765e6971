use mathlib.Core.Path.{sym, ◌∙◌}
use native.Mathlib.Nat.{le_trans}
use Rattle.laws.proofs.Found.{nothing_more}
use Rattle.steps.proofs.Search.{ends_in_lem, trip_start, leave_miss, leave_hit, left_none, left_some}
use Prim.Native.Nat.{◌<◌}
use Rattle.steps.proofs.rides.Sought.left.Goals as goal
use Rattle.steps.proofs.rides.Sought.left.Goals.{In-loop-l, then-ends+in_default, else-ends}

-- a leaving position is one of the route's
inside : (c : In-loop-l) → c.loop-l.l < c.args.route.n
inside c = le_trans c.loop-l-test.true c.requires.visited.past≤

pub loop-l-init : goal.loop-l-init
loop-l-init c = trip_start c.requires.looking _ _ _ _ _ c.requires.trip c.requires.visited

pub ends-requires : goal.ends-requires
ends-requires c = ends_in_lem c.requires.looking _ _ c.requires.trip (inside (goal.at.ends-requires c).In-loop-l)

pub returns-in-Some : goal.returns-in-Some
returns-in-Some c =
    let at = c.requires.looking in
    let within = inside (goal.at.returns-in-Some c).In-loop-l in
    left_some at _ _ _ _ _ c.requires.trip _ within c.loop-l.invariant
    (leave_hit at _ _ _ _ _ c.requires.trip _ within c.ends.ensures c.if-ends.true c.in-Some.ensures)

pub loop-l-preserved : goal.loop-l-preserved
loop-l-preserved c =
    let at = c.requires.looking in
    let within = inside (goal.at.loop-l-preserved c).In-loop-l in
    nothing_more _ _ c.loop-l.invariant
    (elim c.if-ends.branch [
      | then-ends+in_default w ↦
          let nobody = sym w.in_default.is ∙ w.boarded.ensures in
          leave_hit at _ _ _ _ _ c.requires.trip _ within c.ends.ensures w.if-ends.true nobody
      | else-ends w ↦ leave_miss at _ _ _ _ _ c.requires.trip _ within c.ends.ensures w.if-ends.false
    ])

pub returns : goal.returns
returns c = left_none c.requires.looking _ _ _ _ _ c.requires.trip c.requires.visited _ c.loop-l-test.false c.loop-l.invariant
