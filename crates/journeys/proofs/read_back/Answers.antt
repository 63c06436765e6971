use native.Mathlib.Omega.{arith}
use Rattle.paper.specs.Timetable.{lent}
use Prim.Native.Nat.{◌+◌}
use Rattle.journeys.proofs.Listing.{Listing, listing_start, listing_cell, listing_place, listing_traceable}
use Rattle.journeys.proofs.Listing.{listing_take, listing_skip, listing_end}
use Rattle.journeys.proofs.read_back.Goals as goal
use Rattle.journeys.proofs.read_back.Goals.{Joined-arrival-best, then-arrival-best, else-arrival-best}

-- what is kept after a row
next : (c : Joined-arrival-best)
    → Listing (lent c.args.tables) c.args.q c.args.labels.now c.clear.new.legs
    c.if-arrival-best.legs c.if-arrival-best.listed c.if-arrival-best.best (c.loop-k.k + 1)
next c =
    let f = c.loop-k.invariant in
    let at = c.label_at-arrival.ensures in
    elim c.if-arrival-best.branch [
      | then-arrival-best w ↦
          rw (w.legs-is, w.listed-is, w.best-is)
          (listing_take f c.loop-k-test.true at w.if-arrival-best.true w.trace.ensures w.list_also-listed.ensures)
      | else-arrival-best w ↦
          rw (w.legs-is, w.listed-is, w.best-is) (listing_skip f c.loop-k-test.true at w.if-arrival-best.false)
    ]

pub loop-k-init : goal.loop-k-init
loop-k-init c = listing_start c.args.legs.now _ c.requires c.clear.ensures

pub label_at-arrival-requires : goal.label_at-arrival-requires
label_at-arrival-requires c = listing_cell c.loop-k.invariant c.loop-k-test.true

pub list_also-listed-requires : goal.list_also-listed-requires
list_also-listed-requires c = listing_place c.loop-k.invariant c.loop-k-test.true

pub trace-requires : goal.trace-requires
trace-requires c =
    listing_traceable c.loop-k.invariant c.loop-k-test.true c.label_at-arrival.ensures c.if-arrival-best.true

pub loop-k-preserved : goal.loop-k-preserved
loop-k-preserved c = next (goal.at.loop-k-preserved c).Joined-arrival-best

-- after the last row
pub returns-after-arrival-best : goal.returns-after-arrival-best
returns-after-arrival-best c =
    let all = next (goal.at.returns-after-arrival-best c).Joined-arrival-best in
    listing_end all c.args.legs.now c.clear.ensures (omega arith)
