-- The printer's numbers, fields and lines: decimals, and what is printed can be read back.
use mathlib.Core.Path.{◌≡◌, refl, sym, ap, ◌∙◌}
use mathlib.Core.Bool.{Bool, true, false}
use mathlib.Core.List.{List, [], ◌∷◌, ◌++◌}
use Rattle.std.specs.Prelude.{Some}
use Prim.Native.Nat.{ℕ, zero, suc, ◌+◌, ◌*◌, ◌-◌, ◌/◌, ◌%◌, ◌≤◌, ◌<◌}
use native.Mathlib.Omega.{arith}
use lib.Dec.{eqb, ltb, leb-suc-suc}
use lib.ListN.{length, get_or, take, drop, length-append}
use lib.Seq.{take-append_seam}
use borrow.Author.Tests.{lt-ltb, le-ltb, le-leb, eq-eqb, ne_eqb, eqb-true}
use Rattle.laws.specs.Below.{first_below, given}
use Rattle.laws.specs.Lists.{every}
use Rattle.laws.proofs.Tests.{by_test, by_lt, both_ways, and_both, and_true}
use Rattle.paper.specs.Lines.{space, newline, line_end, is_line, fields_of, onto, value_from, is_digit, is_number, question_in, question_of, digits, decimal}
use Rattle.paper.specs.declared.Question.{Question}

-- ---- decimals

unfoldable ten_to : ℕ → ℕ
ten_to zero = 1
ten_to (suc k) = ten_to k * 10

pub digits_small : (k x : ℕ) → x < 10 → digits (suc k) x ≡ (48 + x) ∷ []
unfolding digits
digits_small k x h = rw (lt-ltb x 10 h)

pub digits_large : (k x : ℕ) → 10 ≤ x → digits (suc k) x ≡ digits k (x / 10) ++ ((48 + x % 10) ∷ [])
unfolding digits
digits_large k x h = rw (le-ltb x 10 h)

-- digits enough: one more changes nothing
digits_more : (k x : ℕ) → x < ten_to (suc k) → digits (suc (suc k)) x ≡ digits (suc k) x
unfolding ten_to
digits_more zero x h = digits_small 1 x (omega arith) ∙ sym (digits_small 0 x (omega arith))
digits_more (suc k) x h =
    by_lt x 10 (λ l. digits_small (suc (suc k)) x l ∙ sym (digits_small (suc k) x l))
    (λ l. digits_large (suc (suc k)) x l
    ∙ ap (λ (xs : List ℕ). xs ++ ((48 + x % 10) ∷ [])) (digits_more k (x / 10) (omega arith))
    ∙ sym (digits_large (suc k) x l))

length_digits : (k x : ℕ) → length (digits k x) ≤ k
unfolding digits
length_digits zero x = omega arith
length_digits (suc k) x =
    by_lt x 10 (λ l. rw (digits_small k x l) (omega arith))
    (λ l. rw (digits_large k x l) (simp length-append (omega (arith, length_digits k (x / 10)))))

pub decimal_small : (x : ℕ) → x < 10 → decimal x ≡ (48 + x) ∷ []
unfolding decimal
decimal_small x h = digits_small 9 x h

decimal_nine : (x : ℕ) → x < 1000000000 → decimal x ≡ digits 9 x
unfolding decimal ten_to
decimal_nine x h = digits_more 8 x h

pub decimal_large : (x : ℕ) → x < 4294967296 → 10 ≤ x → decimal x ≡ decimal (x / 10) ++ ((48 + x % 10) ∷ [])
unfolding decimal
decimal_large x h l =
    digits_large 9 x l ∙ ap (λ (xs : List ℕ). xs ++ ((48 + x % 10) ∷ [])) (sym (decimal_nine (x / 10) (omega arith)))

pub decimal_ten : (x : ℕ) → length (decimal x) ≤ 10
unfolding decimal
decimal_ten x = length_digits 10 x

-- a number of 32 bits without its last digit
pub decimal_shorter : (x : ℕ) → x < 4294967296 → length (decimal (x / 10)) ≤ 9
decimal_shorter x h = rw (decimal_nine (x / 10) (omega arith)) (length_digits 9 (x / 10))

-- ---- bytes without one of them, and the fields of a line

-- z is none of the bytes
pub data Without (z : ℕ) : List ℕ → Type 0 where
  blank : Without z []
  also : {b : ℕ} {bs : List ℕ} → eqb b z ≡ false → Without z bs → Without z (b ∷ bs)

pub without_append : {z : ℕ} {xs ys : List ℕ} → Without z xs → Without z ys → Without z (xs ++ ys)
without_append blank w = w
without_append (also e v) w = also e (without_append v w)

pub without_right : {z : ℕ} (xs ys : List ℕ) → Without z (xs ++ ys) → Without z ys
without_right [] ys w = w
without_right (x ∷ xs) ys (also e w) = without_right xs ys w

pub without_rest : {z b : ℕ} {bs : List ℕ} → Without z (b ∷ bs) → Without z bs
without_rest (also e w) = w

pub fields_of_whole : {x : List ℕ} → Without space x → fields_of x ≡ x ∷ []
unfolding fields_of onto
fields_of_whole blank = refl
fields_of_whole (also e w) = rw (e, fields_of_whole w)

pub fields_of_parted : {x : List ℕ} (rest : List ℕ) → Without space x → fields_of (x ++ (space ∷ rest)) ≡ x ∷ fields_of rest
unfolding fields_of onto
fields_of_parted rest blank = refl
fields_of_parted rest (also e w) = rw (e, fields_of_parted rest w)

-- bytes have no space, or are a field, a space and the rest
pub data Cut (bs : List ℕ) : Type 0 where
  whole : Without space bs → Cut bs
  parted : (x rest : List ℕ) → bs ≡ x ++ (space ∷ rest) → Without space x → Cut bs

cut_more : {b : ℕ} {bs : List ℕ} → eqb b space ≡ false → Cut bs → Cut (b ∷ bs)
cut_more e (whole w) = whole (also e w)
cut_more {b} e (parted x rest h w) = parted (b ∷ x) rest (ap (λ (l : List ℕ). b ∷ l) h) (also e w)

pub cut : (bs : List ℕ) → Cut bs
cut [] = whole blank
cut (b ∷ bs) =
    by_test (eqb b space) (λ e. parted [] bs (ap (λ (x : ℕ). x ∷ bs) (eqb-true b space e)) blank) (λ e. cut_more e (cut bs))

-- ---- where a byte stands first

abbrev pub first_of : ℕ → List ℕ → ℕ
first_of z bs = first_below (length bs) λ i. eqb (get_or bs i 0) z

pub first_without : (z : ℕ) (bs : List ℕ) → Without z (take (first_of z bs) bs)
unfolding first_below
first_without z [] = blank
first_without z (b ∷ bs) = by_test (eqb b z) (λ e. rw e blank) (λ e. rw e (also e (first_without z bs)))

-- what stands from there on: nothing, or that byte and more
pub data Tail (z : ℕ) : Bool → List ℕ → Type 0 where
  unended : Tail z false []
  ended : (rest : List ℕ) → Tail z true (z ∷ rest)

pub first_tail : (z : ℕ) (bs : List ℕ) → Tail z (ltb (first_of z bs) (length bs)) (drop (first_of z bs) bs)
unfolding first_below
first_tail z [] = unended
first_tail z (b ∷ bs) =
    by_test (eqb b z)
    (λ e. rw (e, eqb-true b z e, lt-ltb 0 (suc (length bs)) (omega arith)) (ended bs))
    (λ e. rw (e, leb-suc-suc) (first_tail z bs))

pub first_at : {z : ℕ} {x : List ℕ} (rest : List ℕ) → Without z x → first_of z (x ++ (z ∷ rest)) ≡ length x
unfolding first_below
first_at {z} rest blank = rw (eq-eqb z z refl)
first_at rest (also e w) = rw e (ap suc (first_at rest w))

-- ---- a decimal is a number of 32 bits, and its value is the number

value_append : (x : ℕ) (xs ys : List ℕ) → value_from x (xs ++ ys) ≡ value_from (value_from x xs) ys
unfolding value_from
value_append x [] ys = refl
value_append x (b ∷ xs) ys = value_append (x * 10 + (b - 48)) xs ys

value_one : (x d : ℕ) → value_from x ((48 + d) ∷ []) ≡ x * 10 + d
unfolding value_from
value_one x d = omega arith

value_digits : (k x : ℕ) → x < ten_to (suc k) → value_from 0 (digits (suc k) x) ≡ x
unfolding ten_to
value_digits zero x h = rw (digits_small 0 x (omega arith), value_one) (omega arith)
value_digits (suc k) x h =
    by_lt x 10 (λ l. rw (digits_small (suc k) x l, value_one) (omega arith))
    (λ l. rw (digits_large (suc k) x l, value_append, value_digits k (x / 10) (omega arith), value_one) (omega arith))

-- so two numbers of 32 bits with one decimal are equal
pub value_decimal : (x : ℕ) → x < 4294967296 → value_from 0 (decimal x) ≡ x
unfolding decimal ten_to
value_decimal x h = value_digits 9 x (omega arith)

pub decimal_injective : (x y : ℕ) → x < 4294967296 → y < 4294967296 → decimal x ≡ decimal y → x ≡ y
decimal_injective x y h l e = sym (value_decimal x h) ∙ ap (value_from 0) e ∙ value_decimal y l

every_append : (p : ℕ → Bool) (xs ys : List ℕ) → every p xs ≡ true → every p ys ≡ true → every p (xs ++ ys) ≡ true
unfolding every
every_append p [] ys h l = l
every_append p (x ∷ xs) ys h l =
    let b : (p x ≡ true) × (every p xs ≡ true) = and_both (p x) (every p xs) h in
    and_true (p x) (every p (xs ++ ys)) b.0 (every_append p xs ys b.1 l)

digit_digit : (d : ℕ) → d < 10 → every is_digit ((48 + d) ∷ []) ≡ true
unfolding every is_digit
digit_digit d h = rw (le-leb 48 (48 + d) (omega arith), le-leb (48 + d) 57 (omega arith))

digits-digits : (k x : ℕ) → every is_digit (digits k x) ≡ true
unfolding digits every
digits-digits zero x = refl
digits-digits (suc k) x =
    by_lt x 10 (λ l. rw (digits_small k x l) (digit_digit x l))
    (λ l. rw (digits_large k x l) (every_append is_digit (digits k (x / 10)) ((48 + x % 10) ∷ []) (digits-digits k (x / 10)) (digit_digit (x % 10) (omega arith))))

pub decimal-digits : (x : ℕ) → every is_digit (decimal x) ≡ true
unfolding decimal
decimal-digits x = digits-digits 10 x

pub decimal_some : (x : ℕ) → 1 ≤ length (decimal x)
unfolding decimal
decimal_some x =
    by_lt x 10 (λ l. rw (digits_small 9 x l) (omega arith)) (λ l. rw (digits_large 9 x l, length-append) (omega arith))

pub decimal_number : (x : ℕ) → x < 4294967296 → is_number (decimal x) ≡ true
unfolding is_number
decimal_number x h =
    rw (le-leb 1 (length (decimal x)) (decimal_some x), decimal-digits x, value_decimal x h, lt-ltb x 4294967296 h)

-- a byte that is no digit is none of a decimal's
digits_without : (z : ℕ) (bs : List ℕ) → is_digit z ≡ false → every is_digit bs ≡ true → Without z bs
unfolding every
digits_without z [] n h = blank
digits_without z (b ∷ bs) n h =
    let d : (is_digit b ≡ true) × (every is_digit bs ≡ true) = and_both (is_digit b) (every is_digit bs) h in
    also (ne_eqb b z (λ e. both_ways d.0 (rw e n))) (digits_without z bs n d.1)

pub decimal_without : (z x : ℕ) → is_digit z ≡ false → Without z (decimal x)
decimal_without z x n = digits_without z (decimal x) n (decimal-digits x)

pub space_digit : is_digit space ≡ false
unfolding is_digit
space_digit = refl

pub newline_digit : is_digit newline ≡ false
unfolding is_digit
newline_digit = refl

-- ---- a line printed from a question is read as that question

unfoldable pub question_fields : Question → List ℕ
question_fields q =
    decimal q.start ++ (space ∷ (decimal q.target ++ (space ∷ (decimal q.time ++ (space ∷ (decimal q.limit ++ (space ∷ decimal q.budget)))))))

-- the five numbers with one space between, and a newline
unfoldable pub question_line : Question → List ℕ
question_line q = question_fields q ++ (newline ∷ [])

pub record Question32 (q : Question) : Type 0 where
  pub start< : q.start < 4294967296
  pub target< : q.target < 4294967296
  pub time< : q.time < 4294967296
  pub limit< : q.limit < 4294967296
  pub budget< : q.budget < 4294967296

fields_question : (q : Question) → fields_of (question_fields q) ≡ decimal q.start ∷ decimal q.target ∷ decimal q.time ∷ decimal q.limit ∷ decimal q.budget ∷ []
unfolding question_fields
fields_question q =
    rw (
      fields_of_parted _ (decimal_without space q.start space_digit),
      fields_of_parted _ (decimal_without space q.target space_digit),
      fields_of_parted _ (decimal_without space q.time space_digit),
      fields_of_parted _ (decimal_without space q.limit space_digit),
      fields_of_whole (decimal_without space q.budget space_digit),
    )

spaced_without : (x : ℕ) {bs : List ℕ} → Without newline bs → Without newline (decimal x ++ (space ∷ bs))
spaced_without x w = without_append (decimal_without newline x newline_digit) (also refl w)

question_without : (q : Question) → Without newline (question_fields q)
unfolding question_fields
question_without q =
    spaced_without q.start (spaced_without q.target (spaced_without q.time (spaced_without q.limit (decimal_without newline q.budget newline_digit))))

question-length : (q : Question) → length (question_fields q) ≤ 80
unfolding question_fields
question-length q =
    simp length-append
    (omega (arith, decimal_ten q.start, decimal_ten q.target, decimal_ten q.time, decimal_ten q.limit, decimal_ten q.budget))

pub question_read : (q : Question) → Question32 q → question_of (question_line q) ≡ Some q
unfolding question_of question_line is_line line_end question_in given every
question_read q h =
    rw (
      first_at [] (question_without q),
      length-append,
      lt-ltb (length (question_fields q)) (length (question_fields q) + 1) (omega arith),
      le-leb (length (question_fields q)) 80 (question-length q),
      take-append_seam,
      fields_question,
      decimal_number q.start h.start<,
      decimal_number q.target h.target<,
      decimal_number q.time h.time<,
      decimal_number q.limit h.limit<,
      decimal_number q.budget h.budget<,
      value_decimal q.start h.start<,
      value_decimal q.target h.target<,
      value_decimal q.time h.time<,
      value_decimal q.limit h.limit<,
      value_decimal q.budget h.budget<,
    )
