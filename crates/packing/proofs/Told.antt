-- A packed number tells what was packed: a refusal's number and place, and the three head counts. Refused, all nineteen entries are zero.
use mathlib.Core.Path.{◌≡◌, refl}
use Prim.Native.Nat.{ℕ, ◌<◌}
use native.Mathlib.Omega.{arith}
use lib.ListN.{replicate}
use Rattle.laws.specs.Lists.{pieces}
use Rattle.std.specs.Prelude.{Ok}
use Rattle.paper.specs.declared.Refusal.{Refusal}
use Rattle.paper.specs.Reply.{refused}
use Rattle.paper.specs.declared.Heads.{Heads}
use Rattle.packing.specs.Packed.{packed, reading_number, entry_numbers}

pub packed_told : (n₁ p₁ n₂ p₂ : ℕ) → p₁ < 4294967296 → p₂ < 4294967296 → packed n₁ p₁ ≡ packed n₂ p₂ → (n₁ ≡ n₂) × (p₁ ≡ p₂)
packed_told n₁ p₁ n₂ p₂ l₁ l₂ e = (omega arith, omega arith)

pub heads_told :
    (h k : Heads) → h.stops < 1024 → k.stops < 1024 → h.routes < 128 → k.routes < 128
    → reading_number (Ok h) ≡ reading_number (Ok k)
    → (h.stops ≡ k.stops) × ((h.routes ≡ k.routes) × (h.walks ≡ k.walks))
heads_told h k a₁ a₂ b₁ b₂ e = (omega arith, (omega arith, omega arith))

pub refused_zero : (x : Refusal) → entry_numbers (refused x).count (refused x).entries ≡ replicate 19 0
unfolding entry_numbers pieces
refused_zero x = refl
