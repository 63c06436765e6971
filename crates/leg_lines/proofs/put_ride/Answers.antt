-- `leg_lines::put_ride` meets its contract.
use Rattle.lettering.proofs.Puts.{wrote_append}
use Rattle.leg_lines.proofs.put_ride.Goals as goal

pub returns : goal.returns
returns c =
    wrote_append (wrote_append (wrote_append c.put_decimal.ensures c.put_next.ensures) c.put_next-2.ensures)
    c.put_next-3.ensures
