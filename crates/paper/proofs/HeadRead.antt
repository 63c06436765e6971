-- The head and the end of a feed whose records are all well read.
use mathlib.Core.Path.{◌≡◌, refl}
use mathlib.Core.Bool.{Bool, true, false, cond, ◌&&◌}
use mathlib.Core.List.{List}
use Prim.Native.Nat.{ℕ, ◌≤◌}
use native.Mathlib.Omega.{arith}
use lib.Dec.{eqb, leb}
use borrow.Author.Tests.{eqb-true, eqb-false, leb-true}
use Rattle.laws.specs.Fields.{byte, two}
use Rattle.laws.proofs.Tests.{by_test, and_both}
use Rattle.paper.specs.Reading.{head_bad, head_only, records_of, whole_of}

third : (x y z : Bool) → ◌≡◌ {A = ℕ} (cond x (cond y (cond z 0 5) 4) 3) 0 → z ≡ true
third true true true h = refl
third true true false h = absurd (omega arith)
third true false z h = absurd (omega arith)
third false y z h = absurd (omega arith)

pub head_counts : (f : List ℕ) → head_bad f ≡ 0 → (byte f 4 ≤ 64) × (two f 5 ≤ 512)
unfolding head_bad
head_counts f h =
    let t = third (eqb (byte f 0) 0x54 && eqb (byte f 1) 0x48) (eqb (byte f 2) 1) (leb (byte f 4) 64 && leb (two f 5) 512) h in
    let c = and_both (leb (byte f 4) 64) _ t in
    (leb-true (byte f 4) 64 c.0, leb-true (two f 5) 512 c.1)

pub head_well : (f : List ℕ) → (whole_of f).bad ≡ 0 → head_bad f ≡ 0
unfolding whole_of head_only
head_well f h = by_test (eqb (head_bad f) 0) (λ p. eqb-true (head_bad f) 0 p) (λ p. simp p at h)

pub whole_records : (f : List ℕ) → head_bad f ≡ 0 → whole_of f ≡ records_of f (byte f 4) (two f 5)
unfolding whole_of
whole_records f e = simp e

-- the walks ended well, and the end record stands there
pub last_well : (b : ℕ) (c : Bool) → cond (eqb b 0) (cond c 0 3) b ≡ 0 → (b ≡ 0) × (c ≡ true)
last_well b c h =
    by_test (eqb b 0)
    (λ p. by_test c
    (λ q. (eqb-true b 0 p, q))
    (λ q. let z : ◌≡◌ {A = ℕ} 3 0 = simp (p, q) at h in absurd (omega arith)))
    (λ p. let z : b ≡ 0 = simp p at h in absurd (eqb-false b 0 p z))
