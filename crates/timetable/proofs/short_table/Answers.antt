-- `timetable::short_table`: what the search found, counted from 1.
use mathlib.Core.Path.{◌≡◌}
use Rattle.std.proofs.Common.{rules, ℕ, ◌+◌}
use Rattle.std.specs.Prelude.{option_map}
use Rattle.paper.specs.Reply.{short_table}
use Rattle.timetable.proofs.Short.{short_found}
use Rattle.timetable.proofs.short_table.Goals as goal

pub returns : goal.returns
unfolding short_table
returns c =
    let counted : c.map.result ≡ option_map (λ (i : ℕ). i + 1) c.first_short-short.result = search rules in
    rw (← short_found c.args.lengths.now, ← c.first_short-short.ensures.first, ← counted)
    c.unbroken.ensures
