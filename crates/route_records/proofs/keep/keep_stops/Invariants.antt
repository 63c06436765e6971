-- `route_records::keep::keep_stops` meets its contract: the loop has put i stops.
use Rattle.std.proofs.Common.{◌≡◌, ◌+◌}
use Rattle.laws.specs.Fields.{byte}
use Rattle.laws.specs.Lists.{written}
use Rattle.route_records.proofs.keep.keep_stops.Given as goal

abbrev pub invariant-loop-i : goal.invariant-loop-i
invariant-loop-i l = l.d ≡ written l.initial.d l.k (λ i. byte l.f (l.at + i)) l.i
