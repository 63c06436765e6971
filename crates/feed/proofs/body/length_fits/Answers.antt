-- `feed::body::length_fits` meets its contract: the tests in 01's order.
use borrow.Author.Tests.{le-leb, lt-leb}
use Rattle.paper.specs.Reading.{length_right}
use Rattle.feed.proofs.body.length_fits.Goals as goal
use Rattle.feed.proofs.body.length_fits.Goals.{then-n-lt13-via-then-n-lt13, then-n-lt13-via-else-n-lt13+then-n-gt17869}

pub returns-then-n-lt13 : goal.returns-then-n-lt13
unfolding length_right
returns-then-n-lt13 c =
    elim c.then-n-lt13.branch [
      | then-n-lt13-via-then-n-lt13 w ↦ simp (lt-leb _ _ w.if-n-lt13.true)
      | then-n-lt13-via-else-n-lt13+then-n-gt17869 w ↦ simp
          (le-leb _ _ w.if-n-lt13.false, lt-leb _ _ w.if-n-gt17869.true)
    ]

pub returns : goal.returns
unfolding length_right
returns c = simp (le-leb _ _ c.if-n-lt13.false, le-leb _ _ c.if-n-gt17869.false, c.two.ensures.is)
