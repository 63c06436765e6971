-- 6: the search through the lengths is the definition's, and where it finds nothing each table has its full size.
use mathlib.Core.Path.{◌≡◌}
use mathlib.Core.Bool.{Bool, false}
use mathlib.Core.List.{List}
use Rattle.std.specs.Prelude.{Option, Some, None, zip, position, option_map}
use Rattle.std.specs.List.{position_or_len}
use Rattle.std.proofs.lemmas.List.{get_or_past}
use Rattle.std.proofs.lemmas.List.Sums.{fails_before_first, passes_at_first}
use Rattle.std.proofs.lemmas.Slice.Zip.{length-zip, get_or-zip}
use Prim.Native.Nat.{ℕ, ◌+◌, ◌≤◌, ◌<◌}
use native.Mathlib.Omega.{arith}
use lib.Dec.{ltb}
use lib.ListN.{length, get_or}
use borrow.Author.Tests.{ltb-true, ltb-false, le-ltb}
use Rattle.laws.specs.Below.{given, first_found}
use Rattle.laws.proofs.Tests.{by_test}
use Rattle.laws.proofs.Found.{given_true, given_false, first_found_is, first_found_none, first_found_never}
use Rattle.paper.specs.Timetable.{Tables, full_sizes}
use Rattle.paper.specs.Reply.{short_table, lengths_of}
use Rattle.paper.proofs.Checks.{refused_none}
use Rattle.paper.proofs.Lowest.{given_nothing}
use Rattle.timetable.specs.Needed.{Full}

module _ (lengths : List ℕ) where
  abbrev short_at : ℕ → Option ℕ
  short_at i = given (ltb (get_or lengths i 0) (get_or full_sizes i 0)) (Some (i + 1))

  -- the code's test of a length beside its full size
  abbrev short : ℕ × ℕ → Bool
  short p = ltb p.0 p.1

  abbrev pub beside : List (ℕ × ℕ)
  beside = zip lengths full_sizes

  long : length beside ≤ length lengths
  long = omega (arith, length-zip lengths full_sizes)

  test_is : (i : ℕ) {b : Bool} → i < length beside → short (get_or beside i (0, 0)) ≡ b → ltb (get_or lengths i 0) (get_or full_sizes i 0) ≡ b
  test_is i l e =
      let z = length-zip lengths full_sizes in
      let m : i < length full_sizes = omega arith in
      rw (get_or-zip lengths full_sizes i (0, 0) (omega arith) m) at e

  -- a length behind the seven has no full size, and one beside its size is what the code tests
  passes : (first : ℕ) → ((i : ℕ) → i < first → i < length beside → short (get_or beside i (0, 0)) ≡ false) →
      (i : ℕ) → i < first → i < length lengths → short_at i ≡ None
  passes first h i b l =
      by_test (ltb i (length beside))
      (λ t. let m : i < length beside = ltb-true i (length beside) t in given_false (Some (i + 1)) (test_is i m (h i b m)))
      (λ f. let z = length-zip lengths full_sizes in
      let m : length full_sizes ≤ i = omega (arith, ltb-false i (length beside) f) in
      given_false (Some (i + 1)) (rw (get_or_past full_sizes i 0 m) (le-ltb (get_or lengths i 0) 0 (omega arith))))

  pub short_found : option_map (λ (i : ℕ). i + 1) (position short beside) ≡ first_found (length lengths) short_at
  short_found =
      let first = position_or_len short beside in
      by_test (ltb first (length beside))
      (λ t. let l : first < length beside = ltb-true first (length beside) t in
      rw (
        t,
        first_found_is (length lengths) short_at first (omega (arith, long))
            (given_true (Some (first + 1)) (test_is first l (passes_at_first short beside (0, 0) l)))
            (λ i b. passes first (λ k below m. fails_before_first short beside k (0, 0) below) i b (omega (arith, long))),
      ))
      (λ f. let l : length beside ≤ first = ltb-false first (length beside) f in
      rw (
        f,
        first_found_none (length lengths) short_at
            (λ i b. passes (length lengths) (λ k below m. fails_before_first short beside k (0, 0) (omega arith)) i b b),
      ))

module _ (T : Tables) where
  long_enough : (i : ℕ) → i < 5 → short_table (lengths_of T) ≡ None → get_or full_sizes i 0 ≤ get_or (lengths_of T) i 0
  unfolding short_table
  long_enough i l n = ltb-false _ _ (given_nothing _ (i + 1) (first_found_never 5 _ (refused_none 6 _ n) i l))

  pub full_of : short_table (lengths_of T) ≡ None → Full T
  full_of n =
      record {
        routes = long_enough 0 (omega arith) n;
        positions = long_enough 1 (omega arith) n;
        arrivals = long_enough 2 (omega arith) n;
        departures = long_enough 3 (omega arith) n;
        walks = long_enough 4 (omega arith) n;
      }
