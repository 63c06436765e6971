use native.Mathlib.Omega.{arith}
use borrow.Author.Tests.{not-true, not-false}
use Rattle.paper.specs.Timetable.{lent}
use Rattle.rounds.proofs.Running.{Running, running_start, since_entry, since_begun, start_in, round_asked}
use Rattle.rounds.proofs.Running.{work_small, settling, run_passed, run_stopped, running_step, running_end}
use Rattle.rounds.proofs.run.Goals as goal
use Rattle.rounds.proofs.run.Goals.{At-loop-k}

-- the invariant at the loop's test, since the entry
running : (c : At-loop-k) → Running (lent c.args.tables) c.args.q c.args.labels.now c.loop-k.labels c.loop-k.work c.loop-k.k
running c = since_entry _ _ _ c.requires c.fill.ensures c.loop-k.invariant

pub bounds-labels-start : goal.bounds-labels-start
bounds-labels-start c = start_in _ _ _ c.requires c.fill.ensures

pub loop-k-init : goal.loop-k-init
loop-k-init c = running_start _ _ _ c.requires c.fill.ensures

pub round-done-requires : goal.round-done-requires
round-done-requires c =
    let ru = running (goal.at.round-done-requires c).At-loop-k in
    round_asked _ _ _ c.requires ru c.loop-k-test.true

pub overflow_add-work : goal.overflow_add-work
overflow_add-work c =
    let ru = running (goal.at.overflow_add-work c).At-loop-k in
    omega (arith, work_small _ _ _ c.requires ru c.loop-k-test.true c.round-done.ensures)

pub returns-then-q-work : goal.returns-then-q-work
returns-then-q-work c =
    let ru = running (goal.at.returns-then-q-work c).At-loop-k in
    rw c.at.ensures
    (run_passed _ _ _ c.requires ru c.loop-k-test.true c.round-done.ensures c.if-q-work.true c.fill-then-q-work.ensures)

pub settle-requires : goal.settle-requires
settle-requires c =
    let ru = running (goal.at.settle-requires c).At-loop-k in
    settling _ _ _ c.requires ru c.loop-k-test.true c.round-done.ensures

pub returns-then-not-done : goal.returns-then-not-done
returns-then-not-done c =
    let ru = running (goal.at.returns-then-not-done c).At-loop-k in
    run_stopped _ _ _ c.requires ru c.loop-k-test.true c.round-done.ensures
    (not-true _ c.if-not-done.true) c.settle.ensures c.if-q-work.false

pub loop-k-preserved : goal.loop-k-preserved
loop-k-preserved c =
    let ru = running (goal.at.loop-k-preserved c).At-loop-k in
    since_begun _ _ _ c.requires c.fill.ensures
    (running_step _ _ _ c.requires ru c.loop-k-test.true c.round-done.ensures
    c.if-q-work.false (not-false _ c.if-not-done.false))

pub returns : goal.returns
returns c = running_end _ _ _ c.requires (running (goal.at.returns c).At-loop-k) c.loop-k-test.false
