use native.Mathlib.Omega.{arith}
use Rattle.paper.specs.Timetable.{lent}
use Rattle.closure.proofs.Closure.{gap_test, following_start, following_next, following_end, Pair, pair, First, first}
use Rattle.closure.proofs.opens_at.Goals as goal
use Rattle.closure.proofs.opens_at.Goals.{In-loop-w, Start}

-- what is known before the loop, and at a turn of it
facts : (c : Start) → First (lent c.args.tables) c.args.begins.now c.args.v
facts c = first _ _ _ _ c.requires

turn : (c : In-loop-w) → Pair (lent c.args.tables) c.args.seconds.now c.args.v c.loop-w.w
turn c = pair _ _ _ _ _ c.requires c.loop-w.invariant c.loop-w-test.true

pub loop-w-init : goal.loop-w-init
loop-w-init c = following_start _ _ (c.requires.starts.is _ (facts (goal.at.loop-w-init c).Start).to<)

pub bounds-walks-next : goal.bounds-walks-next
bounds-walks-next c = let t = turn (goal.at.bounds-walks-next c).In-loop-w in omega (arith, t.second.small, t.second.table)

pub bounds-seconds-c : goal.bounds-seconds-c
bounds-seconds-c c = (turn (goal.at.bounds-seconds-c c).In-loop-w).to<

pub bounds-walks-next-in-loop-w : goal.bounds-walks-next-in-loop-w
bounds-walks-next-in-loop-w c =
    let t = turn (goal.at.bounds-walks-next-in-loop-w c).In-loop-w in omega (arith, t.second.small, t.second.table)

pub overflow_add-both-in-loop-w-2 : goal.overflow_add-both-in-loop-w-2
overflow_add-both-in-loop-w-2 c = omega (arith, (turn (goal.at.overflow_add-both-in-loop-w-2 c).In-loop-w).both≤)

pub loop-w-preserved : goal.loop-w-preserved
loop-w-preserved c =
    let t = turn (goal.at.loop-w-preserved c).In-loop-w in
    let h = c.requires in
    following_next _ _ h.walked _ c.loop-w.invariant t.below
    (gap_test _ h.walked _ _ _ h.near h.below t.below t.follows)

pub returns : goal.returns
returns c =
    following_end _ _ c.requires.walked _ c.loop-w.invariant
    (c.requires.starts.is _ (facts (goal.at.returns c).Start).next<) c.loop-w-test.false
