-- What is printed determines the answer.
use mathlib.Core.Path.{◌≡◌, refl, sym, ap, ◌∙◌}
use mathlib.Core.Bool.{false}
use mathlib.Core.List.{List, [], ◌∷◌, ◌++◌, append_assoc, append-nil, append_cancel_left}
use Prim.Native.Nat.{ℕ, zero, suc, ◌+◌, ◌*◌, ◌-◌, ◌<◌}
use native.Mathlib.Omega.{arith}
use lib.Dec.{eqb}
use lib.ListN.{length, get_or, replicate}
use borrow.Author.Tests.{eqb-false}
use Rattle.laws.specs.Below.{mark}
use Rattle.laws.specs.Text.{ascii}
use Rattle.laws.specs.Lists.{pieces}
use Rattle.laws.proofs.Tests.{by_test}
use Rattle.paper.specs.Rules.{Refusal}
use Rattle.paper.specs.Reply.{zero_entry, answered, refused}
use Rattle.paper.specs.Lines.{space, newline, is_digit, decimal, line_of, refused_line, journeys_line, trips_line, walked_word, leg_line, entry_lines, verdict_lines, answer_lines}
use Rattle.paper.specs.declared.Entry.{Entry}
use Rattle.paper.specs.declared.Answer.{Answer}
use Rattle.paper.proofs.Lines.{Without, blank, also, without_append, decimal_without, decimal_injective, space_digit, newline_digit}

-- an entry of 32-bit numbers
pub data Entries32 : List Entry → Type 0 where
  none : Entries32 []
  more : {e : Entry} {es : List Entry} → e.rides < 4294967296 → e.arrival < 4294967296 → Entries32 es → Entries32 (e ∷ es)

-- an answer as asking gives it: answered with the work and the entries, or refused
pub data Told : Answer → Type 0 where
  tells : (work : ℕ) (es : List Entry) → work < 4294967296 → length es < 4294967296 → Entries32 es → Told (answered work es)
  refuses : (x : Refusal) → x.number < 4294967296 → x.place < 4294967296 → Told (refused x)

-- ---- lists cut at the first of a byte

differ : {C : Type 0} {b z : ℕ} → eqb b z ≡ false → b ≡ z → C
differ {C} {b} {z} e h = absurd (eqb-false b z e h)

split_same :
    {z : ℕ} {xs ys rs ss : List ℕ} → Without z xs → Without z ys → xs ++ (z ∷ rs) ≡ ys ++ (z ∷ ss) → (xs ≡ ys) × (rs ≡ ss)
split_same blank blank h = (refl, cc)
split_same {z} blank (also {b} e w) h = let f : b ≡ z = cc in differ e f
split_same {z} (also {b} e w) blank h = let f : b ≡ z = cc in differ e f
split_same {z} {rs} {ss} (also {b} {bs} e w) (also {b = c} {bs = cs} f v) h =
    let p : b ≡ c = cc in
    let t : bs ++ (z ∷ rs) ≡ cs ++ (z ∷ ss) = cc in
    let r : (bs ≡ cs) × (rs ≡ ss) = split_same w v t in
    (rw (p, r.0), r.1)

-- a decimal before a byte that is no digit
decimal_split :
    (z x y : ℕ) {rs ss : List ℕ} → is_digit z ≡ false → x < 4294967296 → y < 4294967296
    → decimal x ++ (z ∷ rs) ≡ decimal y ++ (z ∷ ss) → (x ≡ y) × (rs ≡ ss)
decimal_split z x y {rs} {ss} n h l e =
    let r : (decimal x ≡ decimal y) × (rs ≡ ss) = split_same (decimal_without z x n) (decimal_without z y n) e in
    (decimal_injective x y h l r.0, r.1)

-- ---- lines

unfoldable leg_body : List ℕ → ℕ → List ℕ
leg_body legs at =
    decimal (get_or legs at 0)
    ++ (space ∷ decimal (get_or legs (at + 1) 0))
    ++ (space ∷ decimal (get_or legs (at + 2) 0))
    ++ (space ∷ decimal (get_or legs (at + 3) 0))
    ++ (space ∷ walked_word (get_or legs (at + 4) 0))

plain : (x : ℕ) → Without newline (decimal x)
plain x = decimal_without newline x newline_digit

walked_without : (w : ℕ) → Without newline (walked_word w)
unfolding walked_word ascii
walked_without w = by_test (eqb w mark) (λ e. rw e (also refl blank)) (λ e. rw e (plain w))

leg_without : (legs : List ℕ) (at : ℕ) → Without newline (leg_body legs at)
unfolding leg_body
leg_without legs at =
    without_append
    (without_append
    (without_append (without_append (plain (get_or legs at 0)) (also refl (plain (get_or legs (at + 1) 0)))) (also refl (plain (get_or legs (at + 2) 0))))
    (also refl (plain (get_or legs (at + 3) 0))))
    (also refl (walked_without (get_or legs (at + 4) 0)))

leg_line_lem : (legs : List ℕ) (at : ℕ) (rs : List ℕ) → leg_line legs at ++ rs ≡ leg_body legs at ++ (newline ∷ rs)
unfolding leg_line leg_body
leg_line_lem legs at rs = append_assoc (leg_body legs at) (newline ∷ []) rs

-- what follows as many legs is the same
legs_past :
    (g h : List ℕ) (k : ℕ) (f : ℕ → ℕ) (rs ss : List ℕ) → pieces k (λ i. leg_line g (f i)) ++ rs ≡ pieces k (λ i. leg_line h (f i)) ++ ss → rs ≡ ss
unfolding pieces
legs_past g h zero f rs ss e = e
legs_past g h (suc k) f rs ss e =
    let t : leg_line g (f k) ++ rs ≡ leg_line h (f k) ++ ss =
    legs_past g h k f (leg_line g (f k) ++ rs) (leg_line h (f k) ++ ss) (sym (append_assoc (pieces k (λ i. leg_line g (f i))) (leg_line g (f k)) rs) ∙ e ∙ append_assoc (pieces k (λ i. leg_line h (f i))) (leg_line h (f k)) ss)
    in
    (split_same (leg_without g (f k)) (leg_without h (f k)) (sym (leg_line_lem g (f k) rs) ∙ t ∙ leg_line_lem h (f k) ss)).1

-- two lines with the same words, and what follows them
line_split :
    (before between : List ℕ) (j k s t : ℕ) {rs ss : List ℕ} → j < 4294967296 → k < 4294967296 → s < 4294967296 → t < 4294967296
    → line_of before j (space ∷ between) s ++ rs ≡ line_of before k (space ∷ between) t ++ ss → (j ≡ k) × (s ≡ t) × (rs ≡ ss)
line_split before between j k s t {rs} {ss} hj hk hs ht e =
    let past : (x y : ℕ) (us : List ℕ) → line_of before x (space ∷ between) y ++ us ≡ before ++ (decimal x ++ (space ∷ (between ++ (decimal y ++ (newline ∷ us))))) =
    λ x y us. simp append_assoc
    in
    let a : (j ≡ k) × (between ++ (decimal s ++ (newline ∷ rs)) ≡ between ++ (decimal t ++ (newline ∷ ss))) =
    decimal_split space j k space_digit hj hk (append_cancel_left before _ _ (sym (past j s rs) ∙ e ∙ past k t ss))
    in
    let b : (s ≡ t) × (rs ≡ ss) = decimal_split newline s t newline_digit hs ht (append_cancel_left between _ _ a.1) in
    (a.0, b.0, b.1)

-- ---- entries

unfoldable entries_lines : List ℕ → List Entry → List ℕ
entries_lines g [] = []
entries_lines g (e ∷ es) = entry_lines g e ++ entries_lines g es

pieces_first : (k : ℕ) (f : ℕ → List ℕ) → pieces (suc k) f ≡ f zero ++ pieces k (λ i. f (suc i))
unfolding pieces
pieces_first zero f = sym (append-nil (f zero))
pieces_first (suc k) f = rw (pieces_first k f) (append_assoc (f zero) (pieces k (λ i. f (suc i))) (f (suc k)))

pieces_entries : (g : List ℕ) (es rest : List Entry) → pieces (length es) (λ i. entry_lines g (get_or (es ++ rest) i zero_entry)) ≡ entries_lines g es
unfolding pieces entries_lines
pieces_entries g [] rest = refl
pieces_entries g (e ∷ es) rest =
    pieces_first (length es) (λ i. entry_lines g (get_or (e ∷ es ++ rest) i zero_entry)) ∙ ap (λ (l : List ℕ). entry_lines g e ++ l) (pieces_entries g es rest)

entry_lines_lem : (g : List ℕ) (e : Entry) (rs : List ℕ)
    → entry_lines g e ++ rs ≡ trips_line e.rides e.arrival ++ (pieces e.rides (λ i. leg_line g ((e.rides - 1) * 40 + i * 5)) ++ rs)
unfolding entry_lines
entry_lines_lem g e rs = append_assoc (trips_line e.rides e.arrival) (pieces e.rides (λ i. leg_line g ((e.rides - 1) * 40 + i * 5))) rs

-- the line of an entry, and what follows it
trips_split :
    (j k s t : ℕ) {rs ss : List ℕ} → j < 4294967296 → k < 4294967296 → s < 4294967296 → t < 4294967296
    → trips_line j s ++ rs ≡ trips_line k t ++ ss → (j ≡ k) × (s ≡ t) × (rs ≡ ss)
unfolding trips_line ascii
trips_split = line_split (ascii "trips ") (ascii "arrive ")

entry_same : (a b : Entry) → a.rides ≡ b.rides → a.arrival ≡ b.arrival → a ≡ b
entry_same a b p q =
    ap {B = Entry} (λ (k : ℕ). record { rides = k; arrival = a.arrival }) p ∙ ap {B = Entry} (λ (t : ℕ). record { rides = b.rides; arrival = t }) q

abbrev legs_at : List ℕ → ℕ → List ℕ
legs_at g k = pieces k λ i. leg_line g ((k - 1) * 40 + i * 5)

-- two runs of the same number of entries
entries_same :
    (g h : List ℕ) {es fs : List Entry} → Entries32 es → Entries32 fs → length es ≡ length fs → entries_lines g es ≡ entries_lines h fs → es ≡ fs
unfolding entries_lines
entries_same g h none none l e = refl
entries_same g h none (more x y s) l e = absurd (omega arith)
entries_same g h (more x y s) none l e = absurd (omega arith)
entries_same g h (more {e = a} {es} x y s) (more {e = b} {es = fs} u v t) l e =
    let o : (a.rides ≡ b.rides) × (a.arrival ≡ b.arrival) × (legs_at g a.rides ++ entries_lines g es ≡ legs_at h b.rides ++ entries_lines h fs) =
    trips_split a.rides b.rides a.arrival b.arrival x u y v
    (sym (entry_lines_lem g a (entries_lines g es)) ∙ e ∙ entry_lines_lem h b (entries_lines h fs))
    in
    let q : legs_at g b.rides ++ entries_lines g es ≡ legs_at h b.rides ++ entries_lines h fs = rw o.0 at o.2 in
    let r : entries_lines g es ≡ entries_lines h fs =
    legs_past g h b.rides (λ i. (b.rides - 1) * 40 + i * 5) (entries_lines g es) (entries_lines h fs) q
    in
    let n : length es ≡ length fs = omega arith in
    rw (entry_same a b o.0 o.1, entries_same g h s t n r)

-- ---- answers

answered_line :
    (g : List ℕ) (work : ℕ) (es : List Entry) → answer_lines (answered work es) g ≡ journeys_line (length es) work ++ entries_lines g es
unfolding answer_lines verdict_lines
answered_line g work es = rw (pieces_entries g es (replicate (9 - length es) zero_entry))

refuses_line : (g : List ℕ) (x : Refusal) → answer_lines (refused x) g ≡ refused_line x.number x.place ++ []
unfolding answer_lines verdict_lines
refuses_line g x = sym (append-nil (refused_line x.number x.place))

refusal_same : (x y : Refusal) → x.number ≡ y.number → x.place ≡ y.place → x ≡ y
refusal_same x y p q =
    ap {B = Refusal} (λ (k : ℕ). record { number = k; place = x.place }) p ∙ ap {B = Refusal} (λ (t : ℕ). record { number = y.number; place = t }) q

-- the first byte of the one is j, of the other r
answered_or_refused : {C : Type 0} (n w number place : ℕ) (rs ss : List ℕ) → journeys_line n w ++ rs ≡ refused_line number place ++ ss → C
unfolding journeys_line refused_line ascii
answered_or_refused n w number place rs ss e = let z : ◌≡◌ {A = ℕ} 106 114 = cc in absurd (omega arith)

pub printed_same : {a b : Answer} (g h : List ℕ) → Told a → Told b → answer_lines a g ≡ answer_lines b h → a ≡ b
unfolding journeys_line refused_line ascii
printed_same g h (tells w es hw hn he) (tells v fs kv kn ke) e =
    let o : (length es ≡ length fs) × (w ≡ v) × (entries_lines g es ≡ entries_lines h fs) =
    line_split (ascii "journeys ") (ascii "work ") (length es) (length fs) w v hn kn hw kv (sym (answered_line g w es) ∙ e ∙ answered_line h v fs)
    in
    rw (o.1, entries_same g h he ke o.0 o.2)
printed_same g h (refuses x hn hp) (refuses y kn kp) e =
    let o : (x.number ≡ y.number) × (x.place ≡ y.place) × (◌≡◌ {A = List ℕ} [] []) =
    line_split (ascii "refused ") [] x.number y.number x.place y.place hn kn hp kp (sym (refuses_line g x) ∙ e ∙ refuses_line h y)
    in
    ap refused (refusal_same x y o.0 o.1)
printed_same g h (tells w es hw hn he) (refuses y kn kp) e =
    answered_or_refused (length es) w y.number y.place (entries_lines g es) [] (sym (answered_line g w es) ∙ e ∙ refuses_line h y)
printed_same g h (refuses x hn hp) (tells v fs kv kn ke) e =
    answered_or_refused (length fs) v x.number x.place (entries_lines h fs) [] (sym (answered_line h v fs) ∙ sym e ∙ refuses_line g x)
