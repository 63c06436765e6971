-- `feed::body::sum_fits` meets its contract: the sum of all but the last two bytes.
use Rattle.feed.proofs.Top.{sum_first, sum_not}
use Rattle.feed.proofs.body.sum_fits.Goals as goal

pub returns-then-byte-sum : goal.returns-then-byte-sum
returns-then-byte-sum c =
    sum_first _ c.requires c.byte.ensures.is c.fletcher-sum.ensures.is c.if-byte-sum.true
    c.byte-then-byte-sum.ensures.is

pub returns-else-byte-sum : goal.returns-else-byte-sum
returns-else-byte-sum c = sum_not _ c.requires c.byte.ensures.is c.fletcher-sum.ensures.is c.if-byte-sum.false
