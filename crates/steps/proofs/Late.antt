-- No ride that a row permits is before the earliest: where that and the seconds are after v, no step from there arrives at v.
use Rattle.std.specs.Prelude.{Option, None}
use mathlib.Core.Path.{◌≡◌, ◌∙◌}
use mathlib.Core.Bool.{false, ◌&&◌}
use mathlib.Core.List.{List}
use Prim.Native.Nat.{ℕ, ◌+◌, ◌<◌}
use native.Mathlib.Omega.{arith}
use borrow.Author.Tests.{eqb-true}
use lib.Dec.{eqb}
use Rattle.laws.specs.Below.{given}
use Rattle.laws.proofs.Tests.{by_test, and_both}
use Rattle.laws.proofs.Below.{min_below_le}
use Rattle.laws.proofs.Found.{given_true, given_false, first_found_none}
use Rattle.paper.specs.Timetable.{Tables, route_of, stop_at, arrive_at}
use Rattle.paper.specs.Rows.{boards, ride_on, ride_to}
use Rattle.paper.specs.Tie.{boarded_first, left_first, trip_first, route_first}
use Rattle.paper.proofs.Rides.{ride_on_le}

module _ (T : Tables) (row : List ℕ) (s seconds v : ℕ) (after : Option ℕ) (late : v < ride_to T row s + seconds) where
  module _ (r j l : ℕ) (lr : r < T.routes) (lj : j < (route_of T r).m) (ll : l < (route_of T r).n) where
    not_boarded : stop_at (route_of T r) l ≡ s → arrive_at (route_of T r) j l + seconds ≡ v → (i : ℕ) → i < l → boards (route_of T r) row j i ≡ false
    unfolding ride_to
    not_boarded to at i li =
        by_test (boards (route_of T r) row j i)
        (λ t. let a = ride_on_le (route_of T r) row s j i l lj ll li to t in
        let b = min_below_le T.routes (λ k. ride_on (route_of T k) row s) r lr in
        absurd (omega arith))
        (λ f. f)

    not_left : given (eqb (stop_at (route_of T r) l) s && eqb (arrive_at (route_of T r) j l + seconds) v) (boarded_first T row s seconds v after r j l) ≡ None
    unfolding boarded_first
    not_left =
        by_test (eqb (stop_at (route_of T r) l) s && eqb (arrive_at (route_of T r) j l + seconds) v)
        (λ t. let x = and_both _ _ t in
        given_true _ t
        ∙ first_found_none l _ (λ i li. given_false _ (not_boarded (eqb-true _ _ x.0) (eqb-true _ _ x.1) i li)))
        (λ f. given_false _ f)

  pub too_late : route_first T row s seconds v after ≡ None
  unfolding route_first trip_first left_first
  too_late =
      first_found_none T.routes (trip_first T row s seconds v after)
      (λ r lr. first_found_none (route_of T r).m (left_first T row s seconds v after r)
      (λ j lj. first_found_none (route_of T r).n _ (λ l ll. not_left r j l lr lj ll)))
