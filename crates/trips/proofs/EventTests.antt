-- 8 and 9 on one route, as the code tests them, and the loops over trips and positions.
use Rattle.std.specs.Prelude.{Option, Some, None}
use mathlib.Core.Path.{◌≡◌, sym, ◌∙◌}
use mathlib.Core.Bool.{Bool, true, false, not, ◌&&◌, ◌||◌}
use Prim.Native.Nat.{ℕ, ◌+◌, ◌*◌, ◌-◌, ◌≤◌, ◌<◌}
use native.Mathlib.Omega.{arith}
use lib.Dec.{eqb, ltb}
use lib.ListN.{get_or}
use borrow.Author.Tests.{lt-ltb, le-ltb, not-true}
use Rattle.laws.specs.Below.{given, first_found}
use Rattle.laws.proofs.Checking.{not_ltb, not_leb}
use Rattle.laws.proofs.Found.{Nothing, nothing_more, nothing_end, first_found_is, given_true, given_false, first_found_none}
use Rattle.paper.specs.Timetable.{Route, arrive_at, depart_at}
use Rattle.paper.specs.Rules.{time_broken, overtakes}
use Rattle.route_times.specs.declared.Sought.{Sought}
use Rattle.route_times.specs.Route.{ahead, event_broken}
use Rattle.route_times.specs.Folds.{BrokenTold}
use Rattle.route_times.proofs.Folds.{next_trip}
use Rattle.trips.specs.Places.{own_broken, broken_in}

-- ---- 8, as the code tests it

module _ (R : Route) (j i : ℕ) where
  abbrev own : Bool
  own = own_broken (eqb i 0 || eqb (i + 1) R.n) (arrive_at R j i) (depart_at R j i)

  time_tests : time_broken R j i ≡ (own || ltb (i + 1) R.n && ltb (arrive_at R j (i + 1)) (depart_at R j i))
  unfolding time_broken own_broken
  time_tests = simp (not_ltb, not_leb)

  module _ {b : Bool} (is : b ≡ own) where
    pub time_first : b ≡ true → true ≡ time_broken R j i
    time_first t = rw (time_tests, ← is, t)

    pub time_next : b ≡ false → i + 1 < R.n → ltb (get_or R.arrivals (j * R.n + i + 1) 0) (depart_at R j i) ≡ time_broken R j i
    time_next f l =
        let z : j * R.n + i + 1 ≡ j * R.n + (i + 1) = omega arith in
        rw (time_tests, ← is, f, lt-ltb (i + 1) R.n l, z)

    pub time_last : b ≡ false → R.n ≤ i + 1 → false ≡ time_broken R j i
    time_last f l = rw (time_tests, ← is, f, le-ltb (i + 1) R.n l)

-- ---- 9, as the code tests it

pub pair_is : (R : Route) (j i : ℕ) →
    (ltb (get_or R.arrivals (j * R.n + i + R.n) 0) (arrive_at R j i) || ltb (get_or R.departures (j * R.n + i + R.n) 0) (depart_at R j i)) ≡ overtakes R j i
unfolding overtakes
pair_is R j i = rw (next_trip R.n j i)

-- ---- the loops

module _ (s : Sought) (R : Route) where
  abbrev pub event_at : ℕ → ℕ → Option ℕ
  event_at j i = given (event_broken s R j i) (Some ((j + ahead s) * R.n + i))

  abbrev pub trip_at : ℕ → Option ℕ
  trip_at j = first_found R.n (event_at j)

  pub position_passed : (j i : ℕ) {r : Bool} → Nothing (event_at j) i → r ≡ event_broken s R j i → r ≡ false → Nothing (event_at j) (i + 1)
  position_passed j i h e f = nothing_more (event_at j) i h (given_false _ (sym e ∙ f))

  pub event_found : (j i : ℕ) {r : Bool} → j < R.m - ahead s → i < R.n → Nothing trip_at j → Nothing (event_at j) i →
      r ≡ event_broken s R j i → r ≡ true → Some ((j + ahead s) * R.n + i) ≡ broken_in s R
  unfolding broken_in
  event_found j i lj li hj hi e t =
      let here = first_found_is R.n (event_at j) i li (given_true (Some ((j + ahead s) * R.n + i)) (sym e ∙ t)) hi in
      rw (first_found_is (R.m - ahead s) trip_at j lj here hj)

  pub trip_passed : (j i : ℕ) → R.n ≤ i → i ≤ R.n → Nothing trip_at j → Nothing (event_at j) i → Nothing trip_at (j + 1)
  trip_passed j i l u hj hi = nothing_more trip_at j hj (nothing_end (event_at j) R.n i (omega arith) hi)

  pub event_none : (j : ℕ) → R.m - ahead s ≤ j → j ≤ R.m - ahead s → Nothing trip_at j → None ≡ broken_in s R
  unfolding broken_in
  event_none j l u h = rw (nothing_end trip_at (R.m - ahead s) j (omega arith) h)

-- where the test of all events finds nothing wrong
pub none_wrong : (s : Sought) (R : Route) {wrong : Bool} → BrokenTold s R wrong → not wrong ≡ true → None ≡ broken_in s R
none_wrong s R t e =
    event_none s R (R.m - ahead s) (omega arith) (omega arith)
    (λ j l. first_found_none R.n (event_at s R j) (λ i p. given_false _ (t.right (not-true _ e) j i (omega arith) p)))
