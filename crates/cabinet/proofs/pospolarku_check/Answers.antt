-- `cabinet::pospolarku_check` meets its contract, from that of `timetable::check`.
use mathlib.Core.Path.{ap, ◌∙◌}
use Rattle.packing.specs.Packed.{checked_number}
use Rattle.cabinet.proofs.pospolarku_check.Goals as goal

pub returns : goal.returns
returns c = c.checked_number.ensures ∙ ap checked_number c.check.ensures
