-- Runs of bytes put into a buffer, one after the other.
use mathlib.Core.Path.{◌≡◌, refl, sym, ap, ◌∙◌}
use mathlib.Core.List.{List, [], ◌++◌, append_assoc}
use Prim.Native.Nat.{ℕ, ◌+◌, ◌*◌, ◌≤◌, ◌<◌}
use native.Mathlib.Nat.{mul-suc}
use native.Mathlib.Numerals.{add-one}
use native.Mathlib.Omega.{arith}
use lib.ListN.{length, take, drop, length-append, take-append-drop}
use lib.Seq.{length-take-le, take_at, drop_at, drop-drop}
use Rattle.laws.specs.Lists.{pieces}
use Rattle.laws.proofs.Lists.{pieces_next}
use Rattle.lettering.specs.declared.Pen.{Pen}
use Rattle.lettering.specs.Put.{Put, Wrote}

pub put_none : {at : ℕ} {d : List ℕ} → at ≤ length d → Put [] 0 at d d at
put_none {at} {d} h = record { is = sym (take-append-drop at d); next = omega arith; bound = omega arith; fits = h; keeps = refl }

module _ {xs ys : List ℕ} {m n at : ℕ} {d e f : List ℕ} {r s : ℕ} (p : Put xs m at d e r) (q : Put ys n r e f s) where
  front : length (take at d ++ xs) ≡ r
  front = simp (length-append, length-take-le at d (omega (arith, p.next, p.fits))) (omega (arith, p.next))

  parted : e ≡ (take at d ++ xs) ++ drop r d
  parted = p.is ∙ sym (append_assoc (take at d) xs (drop r d))

  taken : take r e ≡ take at d ++ xs
  taken = rw parted (take_at (take at d ++ xs) (drop r d) r front)

  left : drop s e ≡ drop s d
  left =
      let z : s ≡ r + length ys = q.next in
      rw z (sym (drop-drop (length ys) r e) ∙ ap (drop (length ys)) (rw parted (drop_at (take at d ++ xs) (drop r d) r front)) ∙ drop-drop (length ys) r d)

  pub put_append : Put (xs ++ ys) (m + n) at d f s
  put_append =
      record {
        is = q.is ∙ ap (λ (zs : List ℕ). zs ++ (ys ++ drop s e)) taken ∙ rw left (simp append_assoc);
        next = simp length-append (omega (arith, p.next, q.next));
        bound = omega (arith, p.bound, q.bound);
        fits = omega (arith, q.fits, p.keeps);
        keeps = q.keeps ∙ p.keeps;
      }

-- the same bytes, and a bound that is no lower
pub put_same : {xs ys : List ℕ} {m n at : ℕ} {d e : List ℕ} {r : ℕ} → xs ≡ ys → m ≤ n → Put xs m at d e r → Put ys n at d e r
put_same {at} {d} {r} h l p =
    record {
      is = rw h at p.is;
      next = rw h at p.next;
      bound = omega (arith, p.bound);
      fits = p.fits;
      keeps = p.keeps;
    }

-- the same bytes, which are no more than n
pub put_within : {xs ys : List ℕ} {m n at : ℕ} {d e : List ℕ} {r : ℕ} → xs ≡ ys → length ys ≤ n → Put xs m at d e r → Put ys n at d e r
put_within {xs} {ys} {m} {n} {at} {d} {e} {r} h l p =
    let z : r ≡ at + length ys = rw h at p.next in
    record { is = rw h at p.is; next = z; bound = omega arith; fits = p.fits; keeps = p.keeps }

-- ---- the same with a pen

-- the pen has put xs, and then ys
pub wrote_append : {xs ys : List ℕ} {m n : ℕ} {p q r : Pen} → Wrote xs m p q → Wrote ys n q r → Wrote (xs ++ ys) (m + n) p r
wrote_append a b = record { put = put_append a.put b.put; same = b.same ∙ a.same }

pub wrote_same : {xs ys : List ℕ} {m n : ℕ} {p q : Pen} → xs ≡ ys → m ≤ n → Wrote xs m p q → Wrote ys n p q
wrote_same h l a = record { put = put_same h l a.put; same = a.same }

pub wrote_within : {xs ys : List ℕ} {m n : ℕ} {p q : Pen} → xs ≡ ys → length ys ≤ n → Wrote xs m p q → Wrote ys n p q
wrote_within h l a = record { put = put_within h l a.put; same = a.same }

-- ---- lists one after the other

pub record Along (g : ℕ → List ℕ) (most n : ℕ) (p q : Pen) (i : ℕ) : Type 0 where
  pub within : i ≤ n
  pub wrote : Wrote (pieces i g) (most * i) p q

pub along_start : (g : ℕ → List ℕ) (most n : ℕ) {p : Pen} → p.at ≤ length p.out.now → Along g most n p p 0
unfolding pieces
along_start g most n h = record { within = omega arith; wrote = record { put = put_same refl (omega arith) (put_none h); same = refl } }

pub along_step :
    {g : ℕ → List ℕ} {most n i : ℕ} {p q r : Pen} → Along g most n p q i → i < n → Wrote (g i) most q r → Along g most n p r (i + 1)
along_step {g} {most} {i = i} h l w =
    let z : most * (i + 1) ≡ most * i + most = rw (add-one, mul-suc) in
    record { within = omega arith; wrote = wrote_same (sym (pieces_next i g)) (omega arith) (wrote_append h.wrote w) }

pub along_end :
    {g : ℕ → List ℕ} {most n i : ℕ} {p q : Pen} (all : ℕ) → Along g most n p q i → n ≤ i → most * n ≤ all → Wrote (pieces n g) all p q
along_end {g} {most} {n} {i} all h l b =
    let z : i ≡ n = omega (arith, h.within) in
    wrote_same (rw z) (rw z b) h.wrote
