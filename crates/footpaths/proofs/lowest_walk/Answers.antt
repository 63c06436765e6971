-- `footpaths::lowest_walk`: the search is 10's.
use Rattle.std.proofs.Common.{rules, ◌≡◌, true, false}
use Rattle.std.proofs.lemmas.Iterator.{first_from_Range}
use Rattle.paper.specs.Rules.{walk_broken}
use Rattle.paper.proofs.Lowest.{lowest_sought}
use Rattle.paper.specs.Timetable.{lent}
use Rattle.footpaths.proofs.lowest_walk.Goals as goal

pub returns : goal.returns
returns c =
    let broken = walk_broken (lent c.args.tables) in
    lowest_sought _ _ _
    (first_from_Range _ _ _ c.find.result (λ w. broken w ≡ true) (λ w. broken w ≡ false) c.find.ensures.ran
    (λ w q k. search rules) (λ w q k. search rules))
