-- The sum's loop over parts: what is summed so far, and then the bytes left, make the whole sum.
use mathlib.Core.Path.{◌≡◌, refl, sym, ap, ◌∙◌}
use mathlib.Core.List.{List, ◌++◌}
use Prim.Native.Nat.{ℕ}
use lib.ListN.{length}
use lib.Dec.{lit<}
use Rattle.std.proofs.lemmas.List.{nil_from_length}
use Rattle.paper.proofs.InParts.{fletcher_append}
use Rattle.paper.specs.Feed.{fletcher_from, fletcher_of, zero_sum}
use Rattle.paper.specs.declared.Sum.{Sum}
use Rattle.checksum.specs.Small.{Small, Is}

pub record Along (bytes : List ℕ) (s : Sum) (rest : List ℕ) : Type 0 where
  pub small : Small s
  pub left : fletcher_from s rest ≡ fletcher_of bytes

pub along_start : (bytes : List ℕ) → Along bytes zero_sum bytes
unfolding fletcher_of
along_start bytes = record { small = record { first< = lit< tt; second< = lit< tt }; left = refl }

pub along_step : (bytes part rest' : List ℕ) {s r : Sum} {rest : List ℕ}
    → Along bytes s rest → rest ≡ part ++ rest' → Is (fletcher_from s part) r → Along bytes r rest'
along_step bytes part rest' {s} {r} {rest} h e i =
    record {
      small = i.small;
      left = rw i.is (sym (fletcher_append part rest' s) ∙ sym (ap (fletcher_from s) e) ∙ h.left);
    }

pub along_end : (bytes : List ℕ) {s : Sum} {rest : List ℕ} → Along bytes s rest → length rest ≡ 0 → Is (fletcher_of bytes) s
unfolding fletcher_from
along_end bytes {s} {rest} h e = record { is = rw (nil_from_length rest e) at h.left; small = h.small }
