-- What the length field and the sum see: a feed that is cut, lengthened, or changed in one byte.
use mathlib.Core.Path.{◌≡◌, sym, ap, ◌∙◌}
use mathlib.Core.Logic.{◌≢◌, ◌⊎◌, inl, inr}
use mathlib.Core.List.{List, [], ◌∷◌, ◌++◌}
use mathlib.Core.Bool.{true}
use Prim.Native.Nat.{ℕ, suc, ◌+◌, ◌*◌, ◌-◌, ◌%◌, ◌≤◌, ◌<◌}
use native.Mathlib.Omega.{arith}
use lib.ListN.{length, take, drop, length-append, length-drop, get_or-append, get_or-eq_default}
use lib.Seq.{split_at, ext_get_or, length-take-le, get_or-take, get_or-drop}
use lib.Dec.{eqb}
use borrow.Author.Tests.{eqb-true, eqb-false}
use Rattle.laws.specs.Fields.{byte, two}
use Rattle.laws.proofs.Tests.{by_test, by_lt}
use Rattle.paper.specs.Timetable.{Tables}
use Rattle.paper.specs.declared.Sum.{Sum}
use Rattle.paper.specs.Feed.{fletcher_step, fletcher_from, fletcher_of}
use Rattle.paper.specs.Reading.{Untouched, Accepted, length_right, sum_right, read_of}
use Rattle.paper.proofs.InParts.{fletcher_append}
use Rattle.paper.proofs.Accepted.{passed, length_says, sum_says}
use Rattle.paper.specs.Demands.{Bytes}

-- ---- the length

-- another length than the field says is refused
other_length : (f g : List ℕ) (T : Tables) → read_of f ≡ Accepted T → (13 ≤ length g → two g 7 ≡ two f 7) → length g ≢ length f → read_of g ≡ Untouched 1 0
unfolding read_of
other_length f g T h field differs =
    let a = length_says f (passed f T h).size in
    by_test (length_right g)
    (λ p. let b = length_says g p in absurd (differs (sym b.1 ∙ field b.0 ∙ a.1)))
    (λ p. rw p)

-- no proper beginning of an accepted feed is accepted
pub cut-refused : (f : List ℕ) (T : Tables) (k : ℕ) → read_of f ≡ Accepted T → k < length f → read_of (take k f) ≡ Untouched 1 0
cut-refused f T k h l =
    let e : length (take k f) ≡ k = length-take-le k f (omega arith) in
    other_length f (take k f) T h
    (λ b. λ i. get_or-take k f 7 0 (omega (arith, e)) i * 256 + get_or-take k f 8 0 (omega (arith, e)) i)
    (λ q. omega (arith, e))

-- and no feed that goes on after its end
pub longer_refused : (f : List ℕ) (T : Tables) (x : ℕ) (xs : List ℕ) → read_of f ≡ Accepted T → read_of (f ++ x ∷ xs) ≡ Untouched 1 0
longer_refused f T x xs h =
    let a = (length_says f (passed f T h).size).0 in
    other_length f (f ++ x ∷ xs) T h
    (λ b. λ i. get_or-append f (x ∷ xs) 0 7 (omega arith) i * 256 + get_or-append f (x ∷ xs) 0 8 (omega arith) i)
    (λ q. omega (arith, length-append f (x ∷ xs)))

-- ---- the sum

-- the first number of the sum does not forget where it began
first_back : (ys : List ℕ) (s t : Sum) → s.first < 255 → t.first < 255 → (fletcher_from s ys).first ≡ (fletcher_from t ys).first → s.first ≡ t.first
unfolding fletcher_from fletcher_step
first_back [] s t a b h = h
first_back (y ∷ ys) s t a b h =
    let q : (s.first + y) % 255 ≡ (t.first + y) % 255 = first_back ys (fletcher_step s y) (fletcher_step t y) (omega arith) (omega arith) h in
    omega arith

-- a and b change one into the other unseen
abbrev pub Unseen : ℕ → ℕ → Type 0
Unseen a b = ((a ≡ 0) × (b ≡ 255)) ⊎ ((a ≡ 255) × (b ≡ 0))

step_sees : (p a b : ℕ) → a < 256 → b < 256 → a ≢ b → (p + a) % 255 ≡ (p + b) % 255 → Unseen a b
step_sees p a b la lb d h =
    by_lt a b
    (λ l. inl (omega arith, omega arith))
    (λ l. inr (by_lt b a (λ m. (omega arith, omega arith)) (λ m. absurd (d (omega arith)))))

sum_sees : (xs ys : List ℕ) (a b : ℕ) → a < 256 → b < 256 → a ≢ b → (fletcher_of (xs ++ a ∷ ys)).first ≡ (fletcher_of (xs ++ b ∷ ys)).first → Unseen a b
unfolding fletcher_of fletcher_from fletcher_step
sum_sees xs ys a b la lb d h =
    let s : Sum = fletcher_of xs in
    let q : (fletcher_from (fletcher_step s a) ys).first ≡ (fletcher_from (fletcher_step s b) ys).first
    = sym (ap (λ (x : Sum). x.first) (fletcher_append xs (a ∷ ys) _)) ∙ h ∙ ap (λ (x : Sum). x.first) (fletcher_append xs (b ∷ ys) _) in
    step_sees s.first a b la lb d (first_back ys (fletcher_step s a) (fletcher_step s b) (omega arith) (omega arith) q)

-- ---- one byte changed

-- g is f with byte i changed
pub record OneByte (f g : List ℕ) (i : ℕ) : Type 0 where
  pub same_length : length f ≡ length g
  pub inside : i < length f
  pub changed : byte f i ≢ byte g i
  pub others : (j : ℕ) → j ≢ i → byte f j ≡ byte g j

-- the parts before and after the byte
take_same : (f g : List ℕ) (i k : ℕ) → OneByte f g i → k ≤ i → take k f ≡ take k g
take_same f g i k o l =
    let a = o.inside in
    let lf : length (take k f) ≡ k = length-take-le k f (omega arith) in
    let lg : length (take k g) ≡ k = length-take-le k g (omega (arith, o.same_length)) in
    ext_get_or 0 (take k f) (take k g) (lf ∙ sym lg)
    (λ j b. let m : j < k = omega arith in
    get_or-take k f j 0 m ∙ o.others j (λ q. omega arith) ∙ sym (get_or-take k g j 0 m))

drop_same : (f g : List ℕ) (i : ℕ) → OneByte f g i → drop (suc i) f ≡ drop (suc i) g
drop_same f g i o =
    ext_get_or 0 (drop (suc i) f) (drop (suc i) g) (simp (length-drop, o.same_length))
    (λ j b. get_or-drop (suc i) f j 0 ∙ o.others (suc i + j) (λ q. omega arith) ∙ sym (get_or-drop (suc i) g j 0))

-- the same change within the first n bytes
take_changed : (f g : List ℕ) (i n : ℕ) → OneByte f g i → i < n → n ≤ length f → OneByte (take n f) (take n g) i
take_changed f g i n o l b =
    let lf : length (take n f) ≡ n = length-take-le n f b in
    let lg : length (take n g) ≡ n = length-take-le n g (omega (arith, o.same_length)) in
    record {
      same_length = lf ∙ sym lg;
      inside = omega arith;
      changed = rw (get_or-take n f i 0 l, get_or-take n g i 0 l) o.changed;
      others = λ j d. others j d (o.others j d);
    }
  where
    others : (j : ℕ) → j ≢ i → byte f j ≡ byte g j → byte (take n f) j ≡ byte (take n g) j
    others j d e = by_lt j n (λ m. get_or-take n f j 0 m ∙ e ∙ sym (get_or-take n g j 0 m))
        (λ m. get_or-eq_default (take n f) 0 (omega (arith, length-take-le n f b)) ∙ sym (get_or-eq_default (take n g) 0 (omega (arith, o.same_length, length-take-le n g (omega (arith, o.same_length))))))

-- two lists of bytes that differ in one byte and whose sums are both right
sums_right : (f g : List ℕ) (i : ℕ) → OneByte f g i → Bytes f → Bytes g → 13 ≤ length f → sum_right f ≡ true → sum_right g ≡ true → Unseen (byte f i) (byte g i)
sums_right f g i o bf bg long hf hg =
    let n : ℕ = length f - 2 in
    let sf = sum_says f hf in
    let sg : (byte g (length f - 2) ≡ (fletcher_of (take (length f - 2) g)).first) × (byte g (length f - 1) ≡ (fletcher_of (take (length f - 2) g)).second)
    = rw (sym o.same_length) at (sum_says g hg) in
    let a = o.inside in
    by_lt i n
    (λ l. let c = take_changed f g i n o l (omega arith) in
    let F : take n f ≡ take i (take n f) ++ byte f i ∷ drop (suc i) (take n f)
    = split_at (take n f) i 0 c.inside ∙ ap (λ (x : ℕ). take i (take n f) ++ x ∷ drop (suc i) (take n f)) (get_or-take n f i 0 l) in
    let G : take n g ≡ take i (take n f) ++ byte g i ∷ drop (suc i) (take n f)
    = split_at (take n g) i 0 (omega (arith, c.inside, c.same_length))
    ∙ (λ t. sym (take_same (take n f) (take n g) i i c (omega arith)) t ++ get_or-take n g i 0 l t ∷ sym (drop_same (take n f) (take n g) i c) t) in
    sum_sees (take i (take n f)) (drop (suc i) (take n f)) (byte f i) (byte g i) (bf i a) (bg i (omega (arith, o.same_length))) o.changed
    (ap (λ (x : List ℕ). (fletcher_of x).first) (sym F) ∙ sym sf.0 ∙ o.others n (λ q. omega arith) ∙ sg.0 ∙ ap (λ (x : List ℕ). (fletcher_of x).first) G))
    (λ l. let t : take n f ≡ take n g = take_same f g i n o l in
    let x : byte f n ≡ byte g n = sf.0 ∙ ap (λ (r : List ℕ). (fletcher_of r).first) t ∙ sym sg.0 in
    let y : byte f (length f - 1) ≡ byte g (length f - 1) = sf.1 ∙ ap (λ (r : List ℕ). (fletcher_of r).second) t ∙ sym sg.1 in
    by_test (eqb i n)
    (λ q. absurd (o.changed (rw (eqb-true i n q) x)))
    (λ q. let e : i ≡ length f - 1 = omega (arith, eqb-false i n q) in absurd (o.changed (rw e y))))

-- two accepted feeds that differ in one byte only: it is 0 in the one and 255 in the other
pub one_byte : (f g : List ℕ) (i : ℕ) (T U : Tables) → Bytes f → Bytes g → OneByte f g i → read_of f ≡ Accepted T → read_of g ≡ Accepted U → Unseen (byte f i) (byte g i)
one_byte f g i T U bf bg o hf hg =
    let p = passed f T hf in
    sums_right f g i o bf bg (length_says f p.size).0 p.sum (passed g U hg).sum

-- so every other change of one byte is refused, by 1 or 2, and the tables are untouched
pub change_refused : (f g : List ℕ) (i : ℕ) (T : Tables) → Bytes f → Bytes g → OneByte f g i → (Unseen (byte f i) (byte g i) → ⊥) → read_of f ≡ Accepted T
    → (read_of g ≡ Untouched 1 0) ⊎ (read_of g ≡ Untouched 2 (length f - 2))
unfolding read_of
change_refused f g i T bf bg o seen hf =
    let p = passed f T hf in
    by_test (length_right g)
    (λ a. by_test (sum_right g)
    (λ b. absurd (seen (sums_right f g i o bf bg (length_says f p.size).0 p.sum b)))
    (λ b. inr (rw (a, b, o.same_length))))
    (λ a. inl (rw a))
