-- `leg_lines::put_leg` meets its contract.
use Rattle.leg_lines.proofs.Leg.{put_legged}
use Rattle.leg_lines.proofs.put_leg.Goals as goal

pub returns : goal.returns
returns c = put_legged _ _ c.put_ride.ensures c.put_walk.ensures
