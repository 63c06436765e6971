-- `timetable::counts::counted`: the sums are tested only where n and m are small.
use Rattle.timetable.proofs.CountTests.{counted_if, counted_not}
use Rattle.timetable.proofs.counts.counted.Goals as goal

pub returns-then-n-m : goal.returns-then-n-m
returns-then-n-m c = counted_if _ _ _ _ c.if-n-m.true

pub returns : goal.returns
returns c = counted_not _ _ _ _ c.if-n-m.false
