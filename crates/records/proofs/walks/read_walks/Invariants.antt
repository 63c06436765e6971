-- `records::walks::read_walks` meets its contract: so many walks are well.
use Rattle.std.proofs.Common.{◌*◌, Ok}
use Rattle.laws.specs.Below.{iterate}
use Rattle.paper.specs.Reading.{next_walk}
use Rattle.records.specs.State.{walks_of, WalksOn}
use Rattle.records.proofs.walks.read_walks.Given as goal

abbrev pub invariant-loop : goal.invariant-loop
invariant-loop l =
    let s = l.initial in
    WalksOn l.e (3 * l.counter) s.q (iterate l.counter (next_walk l.f l.e) (walks_of s.q s.d)) (Ok l.q) s.d l.d
