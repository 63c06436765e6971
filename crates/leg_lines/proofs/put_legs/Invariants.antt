-- `leg_lines::put_legs` meets its contract: the loop keeps `Along`.
use Prim.Native.Nat.{◌+◌, ◌*◌, ◌-◌}
use Rattle.paper.specs.Lines.{leg_line}
use Rattle.lettering.proofs.Puts.{Along}
use Rattle.leg_lines.proofs.put_legs.Given as goal

abbrev pub invariant-loop-i : goal.invariant-loop-i
invariant-loop-i l = Along (λ k. leg_line l.legs ((l.rides - 1) * 40 + k * 5)) 55 l.rides l.initial.pen l.pen l.i
