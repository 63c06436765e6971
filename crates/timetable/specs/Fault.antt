-- What refuses lent tables.
use Rattle.std.specs.Prelude.{Option}
use Rattle.laws.specs.Below.{or_else}
use Rattle.paper.specs.Timetable.{Tables}
use Rattle.paper.specs.declared.Refusal.{Refusal}
use Rattle.paper.specs.Rules.{fault_of}
use Rattle.paper.specs.Reply.{short_table, lengths_of}

-- "6 first. Tables: 5, 7 to 11"
unfoldable pub tables_fault : Tables → Option Refusal
tables_fault T = or_else (short_table (lengths_of T)) (fault_of T)
