-- `feed::write` meets its contract: refused, or all bytes of the feed and no other.
use mathlib.Core.Path.{◌≡◌, ◌∙◌}
use Prim.Native.Nat.{◌<◌}
use native.Mathlib.Omega.{arith}
use Rattle.std.proofs.lemmas.Result.{err_from_is_err_and}
use Rattle.paper.specs.Timetable.{lent}
use Rattle.paper.specs.Feed.{size_of}
use Rattle.sending.proofs.Feed.{size_fits, size_by_lem, size_small}
use Rattle.feed.proofs.Answers.{sends_refused, fit, sends_long, sends_done}
use Rattle.feed.proofs.write.Goals as goal
use Rattle.feed.proofs.write.Goals.{After-size_of-size}

-- the size, and that it is a number of 32 bits
sized : (c : After-size_of-size) → c.size_of-size.result ≡ size_of (lent c.args.tables)
sized c = c.size_of-size.ensures ∙ size_by_lem (fit (lent c.args.tables) c.in_ok-tables_fault.ensures)

small : (c : After-size_of-size) → c.size_of-size.result < 4294967296
small c = omega (arith, sized c, size_small (fit (lent c.args.tables) c.in_ok-tables_fault.ensures))

pub returns-in_err-tables_fault : goal.returns-in_err-tables_fault
returns-in_err-tables_fault c =
    let p = err_from_is_err_and c.from_residual.result c.from_residual.ensures.1 in
    rw (p.1, p.2) (sends_refused (lent c.args.tables) c.in_err-tables_fault.ensures)

pub size_of-size-requires : goal.size_of-size-requires
size_of-size-requires c = size_fits (fit (lent c.args.tables) c.in_ok-tables_fault.ensures)

pub overflow_cast-size : goal.overflow_cast-size
overflow_cast-size c = omega (arith, small (goal.at.overflow_cast-size c).After-size_of-size)

pub returns-then-out-size : goal.returns-then-out-size
returns-then-out-size c =
    sends_long (lent c.args.tables) c.in_ok-tables_fault.ensures (sized (goal.at.returns-then-out-size c).After-size_of-size) c.if-out-size.true c.at.ensures

pub overflow_cast-size-2 : goal.overflow_cast-size-2
overflow_cast-size-2 c = omega (arith, small (goal.at.overflow_cast-size-2 c).After-size_of-size)

pub put_feed-requires : goal.put_feed-requires
put_feed-requires c =
    record {
      fit = fit (lent c.args.tables) c.in_ok-tables_fault.ensures;
      is = sized (goal.at.put_feed-requires c).After-size_of-size;
      room = c.if-out-size.false;
    }

pub overflow_cast-result : goal.overflow_cast-result
overflow_cast-result c = omega (arith, small (goal.at.overflow_cast-result c).After-size_of-size)

pub returns : goal.returns
returns c =
    sends_done (lent c.args.tables) c.in_ok-tables_fault.ensures (sized (goal.at.returns c).After-size_of-size) c.if-out-size.false c.put_feed.ensures
