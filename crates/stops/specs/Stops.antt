-- What rule 7's functions read and promise.
use Rattle.std.specs.Prelude.{List, [], ℕ}
use Rattle.paper.specs.Timetable.{Tables}

-- tables of which 7 reads only the stops and the positions
abbrev pub of_stops : ℕ → List ℕ → Tables
of_stops stops t2 = record { stops = stops; routes = 0; walks = 0; t1 = []; t2 = t2; t3 = []; t4 = []; t5 = [] }
