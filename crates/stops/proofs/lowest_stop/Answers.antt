-- `stops::lowest_stop`: the fold and the search tell 7's lowest place.
use Rattle.std.proofs.Common.{◌≡◌, sym, rules, ◌∙◌}
use Rattle.stops.proofs.StopTests.{stop_none, stop_first}
use Rattle.stops.proofs.lowest_stop.Goals as goal

pub returns-then-all_stops : goal.returns-then-all_stops
returns-then-all_stops c =
    stop_none _ _ c.args.positions.now c.requires (sym c.all_stops.ensures ∙ c.if-all_stops.true)

pub returns : goal.returns
returns c =
    let same : c.map.result ≡ c.first_wrong.result = search rules in
    same ∙ c.first_wrong.ensures ∙ stop_first _ _ c.args.positions.now c.requires
