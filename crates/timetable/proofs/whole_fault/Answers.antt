-- `timetable::whole_fault`: the rules 7 to 11 in order, each given what those before it show.
use mathlib.Core.Path.{ap, sym, ◌∙◌}
use Rattle.std.proofs.lemmas.Result.{err_from_is_err_and}
use Rattle.paper.specs.Timetable.{lent}
use Rattle.paper.specs.Rules.{first_broken}
use Rattle.trips.specs.Places.{lowest_event}
use Rattle.timetable.specs.declared.Totals.{Totals}
use Rattle.timetable.proofs.Faults.{refused_rule, passed_rule, last_rule, nowhere, laid_of, positions_fit, times_laid, walks_lent, walked_of, stops_sought}
use Rattle.timetable.proofs.whole_fault.Goals as goal

pub totals_of-all-requires : goal.totals_of-all-requires
totals_of-all-requires c = laid_of (lent c.args.tables) c.requires

pub lowest_stop-stop-requires : goal.lowest_stop-stop-requires
lowest_stop-stop-requires c =
    positions_fit (lent c.args.tables) c.requires (ap (λ (x : Totals). x.positions) c.totals_of-all.ensures)

pub lowest_event-requires : goal.lowest_event-requires
lowest_event-requires c = times_laid (lent c.args.tables) c.requires

pub lowest_event-requires-2 : goal.lowest_event-requires-2
lowest_event-requires-2 c = times_laid (lent c.args.tables) c.requires

pub lowest_walk-requires : goal.lowest_walk-requires
lowest_walk-requires c = walks_lent (lent c.args.tables) c.requires

pub lowest_open-requires : goal.lowest_open-requires
lowest_open-requires c =
    walked_of (lent c.args.tables) c.requires (sym c.lowest_walk.ensures ∙ nowhere 10 _ c.in_ok-unbroken-4.ensures)

pub returns-in_err-unbroken : goal.returns-in_err-unbroken
unfolding first_broken lowest_event
returns-in_err-unbroken c =
    let p = err_from_is_err_and c.from_residual.result c.from_residual.ensures.1 in
    rw (p.1, p.2)
    (refused_rule tt 7 (stops_sought _ c.totals_of-all.ensures c.lowest_stop-stop.ensures) _ c.in_err-unbroken.ensures)

pub returns-in_err-unbroken-2 : goal.returns-in_err-unbroken-2
unfolding first_broken lowest_event
returns-in_err-unbroken-2 c =
    let p = err_from_is_err_and c.from_residual-in_err-unbroken-2.result c.from_residual-in_err-unbroken-2.ensures.1 in
    rw (p.1, p.2)
    (passed_rule tt 7 (stops_sought _ c.totals_of-all.ensures c.lowest_stop-stop.ensures) _ c.in_ok-unbroken.ensures
    (refused_rule tt 8 c.lowest_event.ensures _ c.in_err-unbroken-2.ensures))

pub returns-in_err-unbroken-3 : goal.returns-in_err-unbroken-3
unfolding first_broken lowest_event
returns-in_err-unbroken-3 c =
    let p = err_from_is_err_and c.from_residual-in_err-unbroken-3.result c.from_residual-in_err-unbroken-3.ensures.1 in
    rw (p.1, p.2)
    (passed_rule tt 7 (stops_sought _ c.totals_of-all.ensures c.lowest_stop-stop.ensures) _ c.in_ok-unbroken.ensures
    (passed_rule tt 8 c.lowest_event.ensures _ c.in_ok-unbroken-2.ensures
    (refused_rule tt 9 c.lowest_event-2.ensures _ c.in_err-unbroken-3.ensures)))

pub returns-in_err-unbroken-4 : goal.returns-in_err-unbroken-4
unfolding first_broken lowest_event
returns-in_err-unbroken-4 c =
    let p = err_from_is_err_and c.from_residual-in_err-unbroken-4.result c.from_residual-in_err-unbroken-4.ensures.1 in
    rw (p.1, p.2)
    (passed_rule tt 7 (stops_sought _ c.totals_of-all.ensures c.lowest_stop-stop.ensures) _ c.in_ok-unbroken.ensures
    (passed_rule tt 8 c.lowest_event.ensures _ c.in_ok-unbroken-2.ensures
    (passed_rule tt 9 c.lowest_event-2.ensures _ c.in_ok-unbroken-3.ensures
    (refused_rule tt 10 c.lowest_walk.ensures _ c.in_err-unbroken-4.ensures))))

pub returns : goal.returns
unfolding first_broken lowest_event
returns c =
    passed_rule tt 7 (stops_sought _ c.totals_of-all.ensures c.lowest_stop-stop.ensures) _ c.in_ok-unbroken.ensures
    (passed_rule tt 8 c.lowest_event.ensures _ c.in_ok-unbroken-2.ensures
    (passed_rule tt 9 c.lowest_event-2.ensures _ c.in_ok-unbroken-3.ensures
    (passed_rule tt 10 c.lowest_walk.ensures _ c.in_ok-unbroken-4.ensures
    (last_rule tt 11 c.lowest_open.ensures c.unbroken-5.ensures))))
