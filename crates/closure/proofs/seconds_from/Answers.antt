use mathlib.Core.Path.{◌≡◌}
use borrow.Author.Rules.{rules}
use Prim.Native.Nat.{◌+◌}
use native.Mathlib.Omega.{arith}
use lib.ListN.{get_or, length}
use Rattle.paper.specs.Timetable.{Tables, lent}
use Rattle.closure.specs.Closed.{begin_of}
use Rattle.closure.proofs.Seconds.{near_start, Turn, turn, near_next, near_end}
use Rattle.closure.proofs.seconds_from.Goals as goal
use Rattle.closure.proofs.seconds_from.Goals.{In-loop-w, Start}

abbrev T : Start → Tables
T c = lent c.args.tables

-- where the walks of the next stop begin, those of stop a end
end : (c : Start) → get_or c.args.begins.now (c.args.a + 1) 0 ≡ begin_of (T c) (c.args.a + 1)
end c = c.requires.starts.is (c.args.a + 1) (omega (arith, c.requires.stop))

-- what a turn of the loop reads
reads : (c : In-loop-w) → Turn (lent c.args.tables) c.args.a c.requires.walked c.loop-w.w
reads c =
    turn _ _ _ _ _ c.loop-w.invariant (c.requires.starts.is (c.args.a + 1) (omega (arith, c.requires.stop)))
    c.loop-w-test.true

pub loop-w-init : goal.loop-w-init
loop-w-init c =
    let all : length c.args.seconds.now ≡ 256 = search rules in
    rw (c.fill.ensures.after (λ y h. h), all) (near_start _ _ c.requires.stop (c.requires.starts.is c.args.a (omega (arith, c.requires.stop))))

pub bounds-walks-at : goal.bounds-walks-at
bounds-walks-at c = let t = reads (goal.at.bounds-walks-at c).In-loop-w in omega (arith, t.stands.small, t.stands.table)

pub bounds-walks-at-in-loop-w : goal.bounds-walks-at-in-loop-w
bounds-walks-at-in-loop-w c =
    let t = reads (goal.at.bounds-walks-at-in-loop-w c).In-loop-w in omega (arith, t.stands.small, t.stands.table)

pub bounds-seconds-walks : goal.bounds-seconds-walks
bounds-seconds-walks c = omega (arith, (reads (goal.at.bounds-seconds-walks c).In-loop-w).to<, c.loop-w.invariant.long)

pub loop-w-preserved : goal.loop-w-preserved
loop-w-preserved c =
    near_next _ _ c.requires.walked _ _ c.loop-w.invariant (end (goal.at.loop-w-preserved c).Start) c.loop-w-test.true

pub returns : goal.returns
returns c =
    near_end _ _ c.requires.walked _ _ c.loop-w.invariant (end (goal.at.returns c).Start) c.loop-w-test.false
