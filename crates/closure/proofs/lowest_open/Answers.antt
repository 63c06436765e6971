use mathlib.Core.Path.{sym, ◌∙◌}
use native.Mathlib.Omega.{arith}
use Rattle.laws.proofs.Below.{passed_none}
use Rattle.paper.specs.Timetable.{lent, walk_from}
use Rattle.paper.proofs.Lowest.{at_lowest, no_lowest}
use Rattle.closure.proofs.Closure.{Turned, turned_new, turned_old, looking_next}
use Rattle.closure.proofs.lowest_open.Goals as goal
use Rattle.closure.proofs.lowest_open.Goals.{Joined-a-from, then-a-from, else-a-from}

-- after the turn the array is that of walk v's first stop, whether or not it was made anew
turned :
    (c : Joined-a-from)
    → let T = lent c.args.tables in Turned T (walk_from T c.loop-v.v) c.if-a-from.from c.if-a-from.seconds
turned c =
    elim c.if-a-from.branch [
      | then-a-from w ↦ turned_new _ _ w.from-is w.seconds-is w.seconds_from-then-a-from.ensures
      | else-a-from w ↦ turned_old _ _ c.loop-v.invariant w.if-a-from.false w.from-is w.seconds-is
    ]

pub returns-then-count-eq0 : goal.returns-then-count-eq0
returns-then-count-eq0 c = no_lowest _ _ 0 (sym c.if-count-eq0.true) (passed_none _)

pub slice_bounds-opens_at-end-in-loop-v : goal.slice_bounds-opens_at-end-in-loop-v
slice_bounds-opens_at-end-in-loop-v c =
    sym (turned (goal.at.slice_bounds-opens_at-end-in-loop-v c).Joined-a-from).near.long

pub opens_at-requires : goal.opens_at-requires
opens_at-requires c =
    record {
      walked = c.requires;
      starts = c.begins_of.ensures;
      below = c.loop-v-test.true;
      near = (turned (goal.at.opens_at-requires c).Joined-a-from).near;
    }

pub returns-then-opens_at : goal.returns-then-opens_at
returns-then-opens_at c =
    at_lowest _ _ _ c.loop-v-test.true c.loop-v.invariant.passed (sym c.opens_at.ensures ∙ c.if-opens_at.true)

pub loop-v-preserved : goal.loop-v-preserved
loop-v-preserved c =
    looking_next _ _ c.loop-v-test.true c.loop-v.invariant (turned (goal.at.loop-v-preserved c).Joined-a-from)
    (sym c.opens_at.ensures ∙ c.if-opens_at.false)

pub returns : goal.returns
returns c =
    no_lowest _ _ _ (omega (arith, c.loop-v.invariant.upto)) c.loop-v.invariant.passed
