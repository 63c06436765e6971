-- Bytes put into a buffer one after the other.
use mathlib.Core.Path.{◌≡◌, refl, sym, ap, ◌∙◌}
use mathlib.Core.List.{List, [], ◌∷◌, ◌++◌, append_assoc, append-nil}
use Prim.Native.Nat.{ℕ, ◌+◌, ◌≤◌, ◌<◌}
use native.Mathlib.Omega.{arith}
use lib.ListN.{length, take, drop, length-append}
use lib.Seq.{length-take-le}
use Rattle.laws.specs.Lists.{over, pieces}
use Rattle.laws.proofs.Below.{sum_below_at}
use Rattle.laws.proofs.Lists.{length_over, over-take, take-over, over-over, pieces_next, length-pieces-sum}
use Rattle.paper.specs.Feed.{fletcher_of}
use Rattle.paper.specs.declared.Sum.{Sum}
use Rattle.lettering.specs.declared.Pen.{Pen}
use Rattle.lettering.specs.Put.{HasRoom, Wrote}
use Rattle.sending.specs.Puts.{Puts, Sent, end_of}

pub puts_length : {xs : List ℕ} {at r : ℕ} {d₀ d : List ℕ} → Puts xs at d₀ r d → length d ≡ length d₀
puts_length {xs} {at} {r} {d₀} h =
    ap length h.is
    ∙ length_over (take at d₀ ++ xs) d₀ (omega (arith, h.fits, length-append (take at d₀) xs, length-take-le at d₀ (omega (arith, h.fits))))

-- what stands before the offset afterwards
pub puts_take : {xs : List ℕ} {at r : ℕ} {d₀ d : List ℕ} → Puts xs at d₀ r d → take r d ≡ take at d₀ ++ xs
puts_take {xs} {at} {r} {d₀} h =
    ap (take r) h.is
    ∙ take-over (take at d₀ ++ xs) d₀ r (omega (arith, h.next, length-append (take at d₀) xs, length-take-le at d₀ (omega (arith, h.fits))))

pub puts_none : (at : ℕ) (d : List ℕ) → at ≤ length d → Puts [] at d at d
puts_none at d h = record { next = omega arith; fits = omega arith; is = sym (ap (λ (r : List ℕ). over r d) (append-nil (take at d)) ∙ over-take d at h) }

pub puts_then : {xs ys : List ℕ} {at r r' : ℕ} {d₀ d d' : List ℕ} → Puts xs at d₀ r d → Puts ys r d r' d' → Puts (xs ++ ys) at d₀ r' d'
puts_then {xs} {ys} {at} {r} {r'} {d₀} {d} {d'} a b =
    let la = length-append xs ys in
    let lt = length-take-le at d₀ (omega (arith, a.fits)) in
    let l1 = length-append (take at d₀) xs in
    let l2 = length-append (take at d₀ ++ xs) ys in
    record {
      next = omega (arith, a.next, b.next);
      fits = omega (arith, a.next, b.fits, puts_length a);
      is = b.is
          ∙ ap (λ (z : List ℕ). over (z ++ ys) d) (puts_take a)
          ∙ ap (over ((take at d₀ ++ xs) ++ ys)) a.is
          ∙ over-over ((take at d₀ ++ xs) ++ ys) (take at d₀ ++ xs) d₀ (omega arith)
          ∙ ap (λ (z : List ℕ). over z d₀) (append_assoc (take at d₀) xs ys);
    }

-- the buffer afterwards known by an equation
pub puts_last : {xs : List ℕ} {at r : ℕ} {d₀ d d' : List ℕ} → Puts xs at d₀ r d → d' ≡ d → Puts xs at d₀ r d'
puts_last h e = rw e h

-- ---- the same with a pen

pub sent_length : {xs : List ℕ} {p q : Pen} → Sent xs p q → length q.out.now ≡ length p.out.now
sent_length h = puts_length h.puts

pub sent_none : {p : Pen} → p.at ≤ length p.out.now → Sent [] p p
sent_none h = record { puts = puts_none _ _ h; same = refl }

pub sent_then : {xs ys : List ℕ} {p q r : Pen} → Sent xs p q → Sent ys q r → Sent (xs ++ ys) p r
sent_then a b = record { puts = puts_then a.puts b.puts; same = b.same ∙ a.same }

pub sent_same : {xs ys : List ℕ} {p q : Pen} → xs ≡ ys → Sent xs p q → Sent ys p q
sent_same e h = rw e at h

-- what the pen wrote, it sent
pub sent : {xs : List ℕ} {m : ℕ} {p q : Pen} → Wrote xs m p q → Sent xs p q
sent {xs} {p = p} {q = q} w =
    let d : List ℕ = p.out.now in
    let l : length (take p.at d ++ xs) ≡ q.at = simp (length-append, length-take-le p.at d (omega (arith, w.put.next, w.put.fits))) (omega (arith, w.put.next)) in
    record {
      puts = record {
        next = w.put.next;
        fits = omega (arith, w.put.next, w.put.fits);
        is = w.put.is ∙ sym (append_assoc (take p.at d) xs (drop q.at d)) ∙ ap (λ (k : ℕ). (take p.at d ++ xs) ++ drop k d) (sym l);
      };
      same = w.same;
    }

-- ---- a loop that sends g 0, g 1, .., k of them, from p on, and has sent j

pub record Sending (g : ℕ → List ℕ) (k : ℕ) (p q : Pen) (j : ℕ) : Type 0 where
  pub j≤ : j ≤ k
  pub room : HasRoom (length (pieces k g)) p
  pub sent : Sent (pieces j g) p q

pub sending_start : (g : ℕ → List ℕ) (k : ℕ) {p : Pen} → HasRoom (length (pieces k g)) p → Sending g k p p 0
unfolding pieces
sending_start g k room = record { j≤ = omega arith; room = room; sent = sent_none (omega arith) }

module _ {g : ℕ → List ℕ} {k j : ℕ} {p q : Pen} (h : Sending g k p q j) where
  pub sending_room : j < k → HasRoom (length (g j)) q
  sending_room l =
      omega (arith, h.room, h.sent.puts.next, sent_length h.sent, sum_below_at k j (λ i. length (g i)) l, length-pieces-sum j g, length-pieces-sum k g)

  pub sending_step : j < k → {r : Pen} → Sent (g j) q r → Sending g k p r (j + 1)
  sending_step l s = record { j≤ = omega arith; room = h.room; sent = sent_same (sym (pieces_next j g)) (sent_then h.sent s) }

  pub sending_end : k ≤ j → Sent (pieces k g) p q
  sending_end l = let t : j ≡ k = omega (arith, h.j≤) in rw t at h.sent

-- ---- the end record

pub sent_end : {p q r : Pen} {s : Sum} → Sent (0x45 ∷ 0x44 ∷ []) p q → s ≡ fletcher_of (take q.at q.out.now) → Sent (s.first ∷ s.second ∷ []) q r
    → Sent (end_of (take p.at p.out.now)) p r
sent_end {p} {s = s} m e a =
    let q : s ≡ fletcher_of (take p.at p.out.now ++ (0x45 ∷ 0x44 ∷ [])) = e ∙ ap fletcher_of (puts_take m.puts) in
    sent_same (λ i. 0x45 ∷ 0x44 ∷ (q i).first ∷ (q i).second ∷ []) (sent_then m a)
