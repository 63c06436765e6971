-- `timetable::counts::count_fault`: the two rules of 5 in order.
use mathlib.Core.Path.{sym, ◌∙◌}
use Rattle.laws.specs.Below.{given, or_else}
use Rattle.paper.specs.Timetable.{lent}
use Rattle.paper.specs.Rules.{first_broken, refused_by}
use Rattle.paper.proofs.Places.{heads_right}
use Rattle.timetable.proofs.Faults.{last_rule}
use Rattle.timetable.proofs.counts.count_fault.Goals as goal

pub returns-then-heads_broken : goal.returns-then-heads_broken
unfolding first_broken given or_else refused_by
returns-then-heads_broken c = rw (c.at.ensures, ← c.heads_broken.ensures, c.if-heads_broken.true)

pub lowest_route-requires : goal.lowest_route-requires
lowest_route-requires c =
    let h = heads_right (lent c.args.tables) (sym c.heads_broken.ensures ∙ c.if-heads_broken.false) in
    record { routes≤ = h.routes≤; long = c.requires.routes }

pub returns : goal.returns
unfolding first_broken given or_else refused_by
returns c =
    rw (← c.heads_broken.ensures, c.if-heads_broken.false)
    (last_rule tt 5 c.lowest_route.ensures c.unbroken.ensures)
