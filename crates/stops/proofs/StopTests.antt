-- 7, as the code tests it: the fold over all positions, and the search for the first that is at no stop.
use mathlib.Core.Path.{◌≡◌}
use mathlib.Core.Bool.{Bool, true, false, ◌&&◌}
use mathlib.Core.List.{List}
use Prim.Native.Nat.{ℕ, ◌≤◌, ◌<◌}
use native.Mathlib.Omega.{arith}
use lib.Dec.{leb, ltb}
use lib.ListN.{length, get_or, take, length-take}
use borrow.Author.Tests.{le-ltb, ltb-true, ltb-false, leb-true, leb-false}
use Rattle.std.specs.Prelude.{fold, position, None}
use Rattle.std.specs.List.{position_or_len}
use Rattle.std.proofs.Common.{get_or-take}
use Rattle.std.proofs.lemmas.List.Sums.{fails_before_first, passes_at_first}
use Rattle.laws.proofs.Tests.{by_test}
use Rattle.laws.proofs.Folds.{each_passes}
use Rattle.paper.specs.Timetable.{Tables, stop_of}
use Rattle.paper.specs.Rules.{lowest_of, stop_broken}
use Rattle.paper.proofs.Lowest.{lowest_is, lowest_none}
use Rattle.paper.proofs.Places.{stop_whole}
use Rattle.stops.specs.Stops.{of_stops}

module _ (stops count : ℕ) (positions : List ℕ) (room : count ≤ length positions) where
  abbrev T : Tables
  T = of_stops stops positions

  -- the code's test of a number, and the numbers that it tests
  abbrev at_none : ℕ → Bool
  at_none stop = leb stops stop

  abbrev used : List ℕ
  used = take count positions

  -- the test of the number at position p is 7's
  broken : (p : ℕ) → p < count → at_none (get_or used p 0) ≡ true → stop_broken T p ≡ true
  unfolding stop_broken
  broken p l t =
      let h : stops ≤ get_or positions p 0 = leb-true stops (get_or positions p 0) (rw get_or-take at t) in
      rw (le-ltb (stop_of T p) stops h)

  whole : (p : ℕ) → p < count → at_none (get_or used p 0) ≡ false → stop_broken T p ≡ false
  whole p l f = stop_whole T p (leb-false stops (get_or positions p 0) (rw get_or-take at f))

  long : length used ≡ count
  long = omega (arith, length-take count positions)

  pub stop_none : fold (λ all stop. all && ltb stop stops) true used ≡ true → None ≡ lowest_of count (stop_broken T)
  stop_none e =
      rw (lowest_none count (stop_broken T)
      (λ p l. let x = each_passes (λ stop. ltb stop stops) true used e p 0 (rw long l) in
      stop_whole T p (ltb-true (get_or positions p 0) stops (rw get_or-take at x))))

  pub stop_first : position at_none used ≡ lowest_of count (stop_broken T)
  stop_first =
      let first = position_or_len at_none used in
      by_test (ltb first (length used))
      (λ t. let l : first < length used = ltb-true first (length used) t in
      let m : first < count = rw long at l in
      rw (
        t,
        lowest_is count (stop_broken T) first m
            (λ p b. whole p (omega arith) (fails_before_first at_none used p 0 b)) (broken first m (passes_at_first at_none used 0 l)),
      ))
      (λ f. let l : length used ≤ first = ltb-false first (length used) f in
      rw (f, lowest_none count (stop_broken T) (λ p b. whole p b (fails_before_first at_none used p 0 (omega (arith, long))))))
