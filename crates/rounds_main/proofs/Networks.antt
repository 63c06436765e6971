-- Document 01's networks, each in tables of full size, may be asked.
use Rattle.std.specs.Prelude.{None}
use mathlib.Core.Path.{◌≡◌, refl}
use mathlib.Core.List.{List}
use Prim.Native.Nat.{ℕ, ◌≤◌}
use native.Mathlib.Omega.{arith}
use lib.ListN.{length, replicate, length-replicate}
use borrow.Author.Tests.{le-ltb}
use Rattle.laws.specs.Lists.{over}
use Rattle.laws.proofs.Lists.{length_over}
use Rattle.paper.specs.Timetable.{Tables}
use Rattle.paper.specs.Lines.{filled}
use Rattle.paper.specs.Rules.{fault_of, Fit}
use Rattle.paper.specs.Starred.{bridge, long_halt, back_to_start}
use Rattle.paper.specs.declared.Question.{Question}
use Rattle.paper.proofs.Opened.{opened}
use Rattle.paper.proofs.Checks.{sound_of}
use Rattle.rounds_main.specs.Network.{Askable}

full : (xs : List ℕ) (size : ℕ) → length xs ≤ size → size ≤ length (over xs (replicate size 0))
full xs size h =
    let zeros : List ℕ = replicate size 0 in
    let n : length zeros ≡ size = length-replicate size 0 in
    omega (arith, length_over xs zeros (omega arith))

-- what is known of a network's own lists
fit_of : (T : Tables) → fault_of (filled T) ≡ None → length T.t1 ≤ 256 → length T.t2 ≤ 2048 → length T.t3 ≤ 2048 → length T.t4 ≤ 2048 → length T.t5 ≤ 1536 → Fit (filled T)
fit_of T e a b c d w =
    record {
      sound = sound_of (filled T) e;
      routes_room = full T.t1 256 a;
      positions_room = full T.t2 2048 b;
      arrivals_room = full T.t3 2048 c;
      departures_room = full T.t4 2048 d;
      walks_room = full T.t5 1536 w;
    }

bridge_fit : Fit (filled bridge)
unfolding opened
bridge_fit = fit_of bridge refl (omega arith) (omega arith) (omega arith) (omega arith) (omega arith)

halt_fit : Fit (filled long_halt)
unfolding opened
halt_fit = fit_of long_halt refl (omega arith) (omega arith) (omega arith) (omega arith) (omega arith)

back_fit : Fit (filled back_to_start)
unfolding opened
back_fit = fit_of back_to_start refl (omega arith) (omega arith) (omega arith) (omega arith) (omega arith)

-- "0 to 2" at a time, for at most 8 rides, within a budget
abbrev pub zero_to_two : ℕ → ℕ → Question
zero_to_two time budget = record { start = 0; target = 2; time = time; limit = 8; budget = budget }

pub bridge_askable : (limit budget : ℕ) → limit ≤ 8 → Askable (filled bridge) (record { start = 0; target = 2; time = 100; limit = limit; budget = budget })
unfolding opened
bridge_askable limit budget l = record { fit = bridge_fit; good = le-ltb 8 limit l }

pub halt_askable : Askable (filled long_halt) (zero_to_two 55 100)
unfolding opened
halt_askable = record { fit = halt_fit; good = refl }

pub back_askable : Askable (filled back_to_start) (zero_to_two 100 100)
unfolding opened
back_askable = record { fit = back_fit; good = refl }
