-- `trips::broken_at` meets its contract: the place within the route, counted from its first event.
use Rattle.std.proofs.Common.{◌≡◌, ◌∙◌, None, rules}
use native.Mathlib.Omega.{arith}
use Rattle.trips.proofs.Routes.{cut_below, cut_found, cut_none}
use Rattle.trips.proofs.broken_at.Goals as goal

pub returns-in_err-place : goal.returns-in_err-place
returns-in_err-place c =
    let none : c.from_residual.result ≡ None = search rules in
    none ∙ cut_none _ c.args.route _ _ c.in_err-place.ensures

pub overflow_add-result : goal.overflow_add-result
overflow_add-result c = omega (arith, cut_below _ c.args.route _ _ c.requires c.in_ok-place.ensures)

pub returns : goal.returns
returns c = cut_found _ c.args.route _ _ c.in_ok-place.ensures
