-- The totals of tables.
use Rattle.paper.specs.Timetable.{Tables, positions_to, trips_to}
use Rattle.timetable.specs.declared.Totals.{Totals}

abbrev pub totals_of : Tables → Totals
totals_of T = record { positions = positions_to T T.routes; trips = trips_to T T.routes }
