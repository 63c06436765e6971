-- "Tables 1 to 5", each by its number.
use Rattle.std.specs.Prelude.{ℕ}
use Rattle.full_tables.specs.declared.Table.{Table}

abbrev pub number_of : Table → ℕ
number_of Table.Routes = 1
number_of Table.Positions = 2
number_of Table.Arrivals = 3
number_of Table.Departures = 4
number_of Table.Walks = 5
