-- `feed::read` meets its contract: 01's order of refusals.
use mathlib.Core.Path.{sym, ◌∙◌}
use native.Mathlib.Omega.{arith}
use Rattle.std.proofs.lemmas.Result.{err_from_is_err_and}
use Rattle.feed.specs.State.{lists}
use Rattle.feed.proofs.Top.{length_bounds}
use Rattle.feed.proofs.Answers.{leaves_short, leaves_length, leaves_sum, body_room, leaves_body}
use Rattle.feed.proofs.read.Goals as goal

pub returns-in_err-short_table-clause-leaves : goal.returns-in_err-short_table-clause-leaves
returns-in_err-short_table-clause-leaves c =
    let p = err_from_is_err_and c.from_residual.result c.from_residual.ensures.1 in
    rw (p.1, p.2) (leaves_short c.args.feed.now (lists c.args.room.now) c.in_err-short_table.ensures)

pub returns-then-not-length_fits-clause-leaves : goal.returns-then-not-length_fits-clause-leaves
returns-then-not-length_fits-clause-leaves c =
    leaves_length c.args.feed.now (lists c.args.room.now) c.in_ok-short_table.ensures
    (sym c.length_fits.ensures ∙ c.if-not-length_fits.true) c.at.ensures

pub sum_fits-requires : goal.sum_fits-requires
sum_fits-requires c =
    let long = sym c.length_fits.ensures ∙ c.if-not-length_fits.false in
    (length_bounds _ long).0

pub overflow_sub-feed : goal.overflow_sub-feed
overflow_sub-feed c =
    let long = sym c.length_fits.ensures ∙ c.if-not-length_fits.false in
    omega (arith, length_bounds _ long)

pub overflow_cast-feed : goal.overflow_cast-feed
overflow_cast-feed c =
    let long = sym c.length_fits.ensures ∙ c.if-not-length_fits.false in
    omega (arith, length_bounds _ long)

pub returns-then-not-sum_fits-clause-leaves : goal.returns-then-not-sum_fits-clause-leaves
returns-then-not-sum_fits-clause-leaves c =
    let long = sym c.length_fits.ensures ∙ c.if-not-length_fits.false in
    leaves_sum c.args.feed.now (lists c.args.room.now) c.in_ok-short_table.ensures long
    (sym c.sum_fits.ensures ∙ c.if-not-sum_fits.true) c.at-then-not-sum_fits.ensures

pub read_body-requires : goal.read_body-requires
read_body-requires c =
    let long = sym c.length_fits.ensures ∙ c.if-not-length_fits.false in
    body_room c.args.room.now c.in_ok-short_table.ensures long

pub returns-clause-leaves : goal.returns-clause-leaves
returns-clause-leaves c =
    let long = sym c.length_fits.ensures ∙ c.if-not-length_fits.false in
    leaves_body c.args.feed.now (lists c.args.room.now) c.in_ok-short_table.ensures long
    (sym c.sum_fits.ensures ∙ c.if-not-sum_fits.false) c.read_body.ensures.leaves
