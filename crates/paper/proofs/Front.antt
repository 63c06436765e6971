-- No more of a file than 17,870 bytes, and no more of the input than its first line or 81 bytes, bears on what is printed.
use mathlib.Core.Path.{◌≡◌, refl, ◌∙◌}
use mathlib.Core.Logic.{◌⊎◌, ⊎_elim}
use mathlib.Core.Bool.{false}
use mathlib.Core.List.{List, [], ◌∷◌}
use Prim.Native.Nat.{ℕ, zero, suc, ◌≤◌, ◌<◌, min}
use native.Mathlib.Omega.{arith}
use lib.Dec.{eqb, leb, ltb}
use lib.ListN.{length, take, length-take}
use lib.Seq.{take_all, take-take}
use borrow.Author.Tests.{lt-ltb, le-ltb, lt-leb}
use Rattle.laws.specs.Below.{first_below, given}
use Rattle.laws.proofs.Tests.{by_test, by_lt, and_no}
use Rattle.paper.specs.Reading.{length_right, read_of}
use Rattle.paper.specs.Lines.{newline, line_end, is_line, question_of, printed}
use Rattle.paper.proofs.Lines.{first_of}

-- ---- the file: one byte more than the longest feed has tells that it is too long

too_long : (f : List ℕ) → 17869 < length f → length_right f ≡ false
unfolding length_right
too_long f h = rw (lt-leb (length f) 17869 h) (and_no (leb 13 (length f)))

pub read_front : (f : List ℕ) (k : ℕ) → 17869 < k → read_of (take k f) ≡ read_of f
unfolding read_of
read_front f k h =
    by_lt k (length f)
    (λ l. let e : 17869 < length (take k f) = rw length-take (omega arith) in
    rw (too_long (take k f) e, too_long f (omega arith)))
    (λ l. rw (take_all k f l))

-- ---- the line

first_take : (z : ℕ) (bs : List ℕ) (k : ℕ) → first_of z (take k bs) ≡ min (first_of z bs) k
unfolding first_below
first_take z [] zero = refl
first_take z [] (suc k) = omega arith
first_take z (b ∷ bs) zero = omega arith
first_take z (b ∷ bs) (suc k) =
    by_test (eqb b z) (λ e. rw e (omega arith)) (λ e. rw e (let h = first_take z bs k in omega arith))

end_take : (input : List ℕ) (k : ℕ) → line_end (take k input) ≡ min (line_end input) k
unfolding line_end
end_take input k = first_take newline input k

no_line : (input : List ℕ) → length input ≤ line_end input → is_line input ≡ false
unfolding is_line
no_line input h = rw (le-ltb (line_end input) (length input) h)

long_line : (input : List ℕ) → 80 < line_end input → is_line input ≡ false
unfolding is_line
long_line input h = rw (lt-leb (line_end input) 80 h) (and_no (ltb (line_end input) (length input)))

same_line : (input : List ℕ) (k : ℕ) → line_end (take k input) ≡ line_end input → line_end input < k → is_line (take k input) ≡ is_line input
unfolding is_line
same_line input k e l =
    rw (e, length-take)
    (by_lt (line_end input) (length input)
    (λ m. rw (lt-ltb (line_end input) (min k (length input)) (omega arith), lt-ltb (line_end input) (length input) m))
    (λ m. rw (le-ltb (line_end input) (min k (length input)) (omega arith), le-ltb (line_end input) (length input) m)))

-- bytes after the newline, or after 81 bytes, are ignored
pub question_front : (input : List ℕ) (k : ℕ) → (line_end input < k) ⊎ (80 < k) → question_of (take k input) ≡ question_of input
unfolding question_of given
question_front input k h =
    by_lt (line_end input) k
    (λ l. let e : line_end (take k input) ≡ line_end input = end_take input k ∙ omega arith in
    rw (same_line input k e l, e, take-take (line_end input) k input (omega arith)))
    (λ l. let e : line_end (take k input) ≡ k = end_take input k ∙ omega arith in
    let s = length-take k input in
    let g : 80 < k = ⊎_elim (λ x. absurd (omega arith)) (λ x. x) h in
    rw (no_line (take k input) (omega arith), long_line input (omega arith)))

-- so the program may stop reading there
pub printed_front : (f input : List ℕ) (i k : ℕ) → 17869 < i → (line_end input < k) ⊎ (80 < k) → printed (take i f) (take k input) ≡ printed f input
unfolding printed
printed_front f input i k h l = rw (read_front f i h, question_front input k l)
