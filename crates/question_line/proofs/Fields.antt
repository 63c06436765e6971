-- A number of the line against 01's `is_number`: what the reader finds in a run of bytes, by the byte that ends it.
use mathlib.Core.Path.{◌≡◌, refl}
use mathlib.Core.Bool.{Bool, true, false, cond, ◌&&◌}
use mathlib.Core.List.{List, [], ◌∷◌, ◌++◌}
use Prim.Native.Nat.{ℕ, suc, ◌+◌, ◌*◌, ◌-◌, ◌≤◌, ◌<◌}
use native.Mathlib.Nat.{add-zero}
use native.Mathlib.Omega.{arith}
use lib.Dec.{eqb, ltb}
use lib.ListN.{length}
use borrow.Author.Tests.{lt-ltb, le-ltb, le-leb, lt-leb, eq-eqb}
use Rattle.std.specs.Prelude.{Option, Some, None}
use Rattle.laws.specs.Lists.{every}
use Rattle.laws.proofs.Tests.{by_test, by_lt, and_no}
use Rattle.paper.specs.Lines.{space, value_from, is_digit, is_number}
use Rattle.paper.proofs.Lines.{Without, blank, also}
use Rattle.question_line.specs.Asking.{field_from}

pub and_true_right : (a : Bool) → (a && true) ≡ a
and_true_right true = refl
and_true_right false = refl

value_grows : (x : ℕ) (bs : List ℕ) → x ≤ value_from x bs
unfolding value_from
value_grows x [] = omega arith
value_grows x (b ∷ bs) = omega (arith, value_grows (x * 10 + (b - 48)) bs)

-- one digit or more, all digits, and the value after x of 32 bits
unfoldable fits : ℕ → ℕ → ℕ → List ℕ → Bool
fits from i x bs = ltb from (i + length bs) && every is_digit bs && ltb (value_from x bs) 4294967296

abbrev found : Bool → ℕ → ℕ → Option (ℕ × ℕ)
found b x next = cond b (Some (x, next)) None

field_hit :
    {stop : ℕ} {bs : List ℕ} (from i x : ℕ) (rest : List ℕ) → Without stop bs → x < 4294967296
    → field_from stop from i x (bs ++ (stop ∷ rest)) ≡ found (fits from i x bs) (value_from x bs) (i + length bs + 1)
unfolding field_from fits every value_from
field_hit {stop} from i x rest blank h =
    simp (eq-eqb stop stop refl, lt-ltb x 4294967296 h, and_true_right, add-zero i)
field_hit {stop} from i x rest (also {b} {bs} e w) h =
    by_test (is_digit b)
    (λ d. by_lt (x * 10 + (b - 48)) 4294967296
    (λ l. rw (e, d, lt-ltb (x * 10 + (b - 48)) 4294967296 l, field_hit from (i + 1) (x * 10 + (b - 48)) rest w l)
    (let z : i + suc (length bs) ≡ i + 1 + length bs = omega arith in rw z))
    (λ l. rw (
      e,
      d,
      le-ltb (x * 10 + (b - 48)) 4294967296 l,
      le-ltb (value_from (x * 10 + (b - 48)) bs) 4294967296 (omega (arith, value_grows (x * 10 + (b - 48)) bs)),
      and_no,
    )))
    (λ d. rw (e, d, and_no))

pub field_miss : {stop : ℕ} {bs : List ℕ} (from i x : ℕ) → Without stop bs → field_from stop from i x bs ≡ None
unfolding field_from
field_miss from i x blank = refl
field_miss from i x (also {b} {bs} e w) =
    by_test (is_digit b && ltb (x * 10 + (b - 48)) 4294967296) (λ t. rw (e, t) (field_miss from (i + 1) (x * 10 + (b - 48)) w)) (λ f. rw (e, f))

-- a byte that is neither a digit nor the end stands in the way
pub field_other :
    {stop : ℕ} {bs : List ℕ} (from i x z : ℕ) (rest : List ℕ) → eqb z stop ≡ false → is_digit z ≡ false → Without stop bs
    → field_from stop from i x (bs ++ (z ∷ rest)) ≡ None
unfolding field_from
field_other from i x z rest o d blank = rw (o, d)
field_other from i x z rest o d (also {b} {bs} e w) =
    by_test (is_digit b && ltb (x * 10 + (b - 48)) 4294967296)
    (λ t. rw (e, t) (field_other from (i + 1) (x * 10 + (b - 48)) z rest o d w))
    (λ f. rw (e, f))

fits_number : (at : ℕ) (bs : List ℕ) → fits at at 0 bs ≡ is_number bs
unfolding fits is_number
fits_number at bs =
    by_lt 0 (length bs)
    (λ h. rw (lt-ltb at (at + length bs) (omega arith), le-leb 1 (length bs) (omega arith)))
    (λ h. rw (le-ltb at (at + length bs) (omega arith), lt-leb 1 (length bs) (omega arith)))

pub field_number :
    {stop : ℕ} {bs : List ℕ} (at : ℕ) (rest : List ℕ) → Without stop bs
    → field_from stop at at 0 (bs ++ (stop ∷ rest)) ≡ found (is_number bs) (value_from 0 bs) (at + length bs + 1)
field_number {stop} {bs} at rest w = rw (← fits_number at bs) (field_hit at at 0 rest w (omega arith))

digits-space : (bs rest : List ℕ) → every is_digit (bs ++ (space ∷ rest)) ≡ false
unfolding every is_digit
digits-space [] rest = refl
digits-space (b ∷ bs) rest = rw (digits-space bs rest, and_no)

pub number_space : (bs rest : List ℕ) → is_number (bs ++ (space ∷ rest)) ≡ false
unfolding is_number
number_space bs rest = rw (digits-space bs rest, and_no)
