use Prim.Native.Nat.{◌+◌, ◌<◌}
use native.Mathlib.Omega.{arith}
use lib.ListN.{length}
use Rattle.laws.specs.Below.{mark}
use Rattle.scan.proofs.Looking.{scanned_start, scanned_step, scanned_end, boardable, work_small}
use Rattle.scan.proofs.routes.look.Goals as goal
use Rattle.scan.proofs.routes.look.Goals.{In-loop-i}

-- in a turn there is a next position
next_in : (c : In-loop-i) → c.loop-i.i + 1 < length c.args.route.stops.now
next_in c = omega (arith, c.loop-i-test.true)

pub loop-i-init : goal.loop-i-init
unfolding mark
loop-i-init c = scanned_start _ _ _ c.requires.some (λ k h. omega (arith, c.type_inv.reach k))

-- both tables rise at a position: which of them is compared, the next row says
pub board-caught-requires : goal.board-caught-requires
board-caught-requires c =
    let below = c.loop-i.invariant.below in
    boardable _ _ _ c.requires c.loop-i.invariant (omega (arith, c.requires.arrivals_size, c.requires.departures_size))
    (λ j h. omega (arith, c.requires.arrivals_rise j c.loop-i.i h below, c.requires.departures_rise j c.loop-i.i h below))

pub overflow_add-work : goal.overflow_add-work
overflow_add-work c =
    let small = work_small _ _ _ c.requires c.loop-i.invariant c.board-caught.ensures in
    omega (arith, small, c.loop-i.invariant.below, c.requires.few_stops, c.requires.few_trips)

pub loop-i-preserved : goal.loop-i-preserved
loop-i-preserved c =
    let within = next_in (goal.at.loop-i-preserved c).In-loop-i in
    scanned_step _ _ _ c.requires c.loop-i.invariant c.board-caught.ensures within c.arrival.ensures c.lower.ensures

pub returns : goal.returns
returns c = scanned_end _ _ _ c.requires c.loop-i.invariant c.loop-i-test.false
