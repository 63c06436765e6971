-- `route_records::keep::keep_times` meets its contract: the loop has put i times to either table.
use Rattle.std.proofs.Common.{◌≡◌, ◌+◌, ◌*◌}
use Rattle.laws.specs.Fields.{three}
use Rattle.laws.specs.Lists.{written}
use Rattle.route_records.proofs.keep.keep_times.Given as goal

abbrev pub invariant-loop-i : goal.invariant-loop-i
invariant-loop-i l =
    (l.arrivals ≡ written l.initial.arrivals l.k (λ i. three l.f (l.at + 6 * i)) l.i)
    × (l.departures ≡ written l.initial.departures l.k (λ i. three l.f (l.at + 3 + 6 * i)) l.i)
