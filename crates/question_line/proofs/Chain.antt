-- The five numbers one after the other are 01's question.
use Rattle.std.specs.Prelude.{Option, Some, None}
use mathlib.Core.Path.{◌≡◌, refl, sym, ap, ◌∙◌}
use mathlib.Core.Bool.{Bool, true, false, cond, ◌&&◌}
use mathlib.Core.List.{List, [], ◌∷◌, ◌++◌, map, append_assoc, append-nil}
use Prim.Native.Nat.{ℕ, zero, suc, ◌+◌, ◌≤◌}
use native.Mathlib.Omega.{arith}
use lib.Dec.{eqb, leb, ltb, eqb-suc-suc}
use lib.ListN.{length, get_or, take, drop, length-append, take-append-drop, get_or-map}
use lib.Seq.{drop-append-add, drop-drop, length-take-le}
use borrow.Author.Tests.{le-leb, lt-leb, ne_eqb}
use Rattle.laws.specs.Below.{given}
use Rattle.laws.specs.Lists.{every}
use Rattle.laws.proofs.Tests.{by_test, by_lt, and_no}
use Rattle.laws.proofs.Below.{first_below_le}
use Rattle.paper.specs.Lines.{space, newline, line_end, is_line, fields_of, value_from, is_digit, is_number, number_at, question_in, question_of}
use Rattle.paper.proofs.Lines.{Without, without_right, without_rest, Cut, whole, parted, cut, fields_of_whole, fields_of_parted, Tail, unended, ended, first_of, first_without, first_tail}
use Rattle.paper.specs.declared.Question.{Question}
use Rattle.question_line.specs.Asking.{field_at}
use Rattle.question_line.proofs.Fields.{field_miss, field_other, field_number, number_space}

-- ---- the numbers read, and the place past the newline

pub record Numbers : Type 0 where
  pub values : List ℕ
  pub end : ℕ

abbrev consed : ℕ → Option Numbers → Option Numbers
consed x None = None
consed x (Some ns) = Some (record { values = x ∷ ns.values; end = ns.end })

abbrev last_of : Option (ℕ × ℕ) → Option Numbers
last_of None = None
last_of (Some field) = Some (record { values = field.0 ∷ []; end = field.1 })

abbrev then_of : Option (ℕ × ℕ) → (ℕ → Option Numbers) → Option Numbers
then_of None f = None
then_of (Some field) f = consed field.0 (f field.1)

-- k numbers that end with a space, and one that ends with the newline
unfoldable pub chain : List ℕ → ℕ → ℕ → Option Numbers
chain input zero at = last_of (field_at input at newline)
chain input (suc k) at = then_of (field_at input at space) (chain input k)

abbrev pub finish : Option Numbers → Option Question
finish None = None
finish (Some ns) =
    cond (leb ns.end 81)
    (Some (record {
      start = get_or ns.values 0 0;
      target = get_or ns.values 1 0;
      time = get_or ns.values 2 0;
      limit = get_or ns.values 3 0;
      budget = get_or ns.values 4 0;
    }))
    None

-- ---- the same of a line whose fields are known

fields_some : (bs : List ℕ) → 1 ≤ length (fields_of bs)
fields_some bs = go (cut bs)
  where
    go : Cut bs → 1 ≤ length (fields_of bs)
    go (whole w) = rw (fields_of_whole w) (omega arith)
    go (parted x rest h w) = rw (h, fields_of_parted rest w) (omega arith)

abbrev numbers_at : List (List ℕ) → ℕ → Numbers
numbers_at fields end = record { values = map (value_from 0) fields; end = end }

abbrev good : Bool → ℕ → List (List ℕ) → Bool
good t k fields = t && eqb (length fields) (suc k) && every is_number fields

consed_given : (b : Bool) (x : ℕ) (ns : Numbers) → consed x (given b (Some ns)) ≡ given b (Some (record { values = x ∷ ns.values; end = ns.end }))
unfolding given
consed_given true x ns = refl
consed_given false x ns = refl

newline_digit : is_digit newline ≡ false
unfolding is_digit
newline_digit = refl

module _ (input : List ℕ) where
  -- the last number: it ends with the newline
  last_is :
      (at : ℕ) (bs : List ℕ) {t : Bool} {end : List ℕ} → Cut bs → Without newline bs → Tail newline t end → drop at input ≡ bs ++ end
      → last_of (field_at input at newline) ≡ given (good t 0 (fields_of bs)) (Some (numbers_at (fields_of bs) (at + length bs + 1)))
  unfolding given every
  last_is at bs c w unended d = rw (d, append-nil, field_miss at at 0 w)
  last_is at bs (whole s) w (ended rest) d =
      by_test (is_number bs)
      (λ y. rw (d, field_number at rest w, fields_of_whole s, y))
      (λ n. rw (d, field_number at rest w, fields_of_whole s, n))
  last_is at bs (parted x after h s) w (ended rest) d =
      let z : is_number bs ≡ false = rw h (number_space x after) in
      let f : fields_of bs ≡ x ∷ fields_of after = rw h (fields_of_parted after s) in
      let l : eqb (suc (length (fields_of after))) 1 ≡ false = ne_eqb (suc (length (fields_of after))) 1 (λ e. omega (arith, fields_some after)) in
      rw (d, field_number at rest w, z, f, l)

  -- a number before the last: it ends with a space
  more_is :
      (k at : ℕ) (bs : List ℕ) {t : Bool} {end : List ℕ} → Cut bs → Without newline bs → Tail newline t end → drop at input ≡ bs ++ end
      → ((to : ℕ) (rest : List ℕ) → Without newline rest → drop to input ≡ rest ++ end
      → chain input k to ≡ given (good t k (fields_of rest)) (Some (numbers_at (fields_of rest) (to + length rest + 1))))
      → then_of (field_at input at space) (chain input k) ≡ given (good t (suc k) (fields_of bs)) (Some (numbers_at (fields_of bs) (at + length bs + 1)))
  unfolding given every
  more_is k at bs {t} (whole s) w unended d next = rw (d, append-nil, field_miss at at 0 s)
  more_is k at bs {t} (whole s) w (ended rest) d next =
      let l : eqb 1 (suc (suc k)) ≡ false = ne_eqb 1 (suc (suc k)) (λ e. omega arith) in
      rw (d, field_other at at 0 newline rest refl newline_digit s, fields_of_whole s, l)
  more_is k at bs {t} {end} (parted x rest h s) w e d next =
      let here : drop at input ≡ x ++ (space ∷ (rest ++ end)) = d ∙ rw h (append_assoc x (space ∷ rest) end) in
      let fields : fields_of bs ≡ x ∷ fields_of rest = rw h (fields_of_parted rest s) in
      let free : Without newline rest = without_rest (without_right x (space ∷ rest) (rw h at w)) in
      let on : at + length x + 1 ≡ at + (length x + 1) = omega arith in
      let there : drop (at + length x + 1) input ≡ rest ++ end =
      rw on (sym (drop-drop (length x + 1) at input) ∙ ap (drop (length x + 1)) here ∙ drop-append-add x (space ∷ (rest ++ end)) 1)
      in
      let size : length bs ≡ length x + suc (length rest) = rw h (length-append x (space ∷ rest)) in
      let past : at + length bs + 1 ≡ at + length x + 1 + length rest + 1 = omega arith in
      by_test (is_number x)
      (λ y. rw (here, field_number at (rest ++ end) s, y, next (at + length x + 1) rest free there, consed_given, fields, past, y, eqb-suc-suc))
      (λ n. rw (here, field_number at (rest ++ end) s, n, fields, n, and_no))

  pub chain_is :
      (k at : ℕ) (bs : List ℕ) {t : Bool} {end : List ℕ} → Without newline bs → Tail newline t end → drop at input ≡ bs ++ end
      → chain input k at ≡ given (good t k (fields_of bs)) (Some (numbers_at (fields_of bs) (at + length bs + 1)))
  unfolding chain
  chain_is zero at bs w e d = last_is at bs (cut bs) w e d
  chain_is (suc k) at bs w e d = more_is k at bs (cut bs) w e d (λ to rest v on. chain_is k to rest v e on)

value_at : (fields : List (List ℕ)) (i : ℕ) → get_or (map (value_from 0) fields) i 0 ≡ number_at fields i
unfolding value_from
value_at fields i = get_or-map (value_from 0) fields i []

end_most : (n : ℕ) → leb (0 + n + 1) 81 ≡ leb n 80
end_most n =
    by_lt 80 n (λ h. lt-leb (0 + n + 1) 81 (omega arith) ∙ sym (lt-leb n 80 h)) (λ h. le-leb (0 + n + 1) 81 (omega arith) ∙ sym (le-leb n 80 h))

finish_is :
    (fields : List (List ℕ)) (n : ℕ) (t : Bool)
    → finish (given (good t 4 fields) (Some (numbers_at fields (0 + n + 1)))) ≡ given (t && leb n 80) (question_in fields)
unfolding given question_in
finish_is fields n false = refl
finish_is fields n true =
    by_test (leb n 80)
    (λ l. by_test (eqb (length fields) 5)
    (λ f. by_test (every is_number fields)
    (λ y. simp (f, y, end_most, l, value_at))
    (λ y. rw (f, y, l)))
    (λ f. rw (f, l)))
    (λ l. by_test (eqb (length fields) 5 && every is_number fields)
    (λ f. rw (f, end_most, l))
    (λ f. rw (f, l)))

pub parse_is : (input : List ℕ) → finish (chain input 4 0) ≡ question_of input
unfolding question_of is_line line_end
parse_is input =
    let e : ℕ = first_of newline input in
    rw (
      chain_is input 4 0 (take e input) (first_without newline input) (first_tail newline input) (sym (take-append-drop e input)),
      length-take-le e input (first_below_le _ _),
    )
    (finish_is (fields_of (take e input)) e (ltb e (length input)))
