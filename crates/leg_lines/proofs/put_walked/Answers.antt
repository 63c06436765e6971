-- `leg_lines::put_walked` meets its contract.
use Rattle.leg_lines.proofs.Leg.{put_dash, put_stop}
use Rattle.leg_lines.proofs.put_walked.Goals as goal

pub returns-then-none : goal.returns-then-none
returns-then-none c = put_dash c.if-none.true c.put_byte.ensures

pub returns-else-none : goal.returns-else-none
returns-else-none c = put_stop c.if-none.false c.put_decimal.ensures
