-- A block's loop: the remainders of what is added so far, and then the bytes left, make the block's sum.
use mathlib.Core.Path.{◌≡◌}
use mathlib.Core.List.{List}
use Prim.Native.Nat.{ℕ, ◌+◌, ◌%◌, ◌≤◌, ◌<◌}
use native.Mathlib.Numerals.{add-one}
use native.Mathlib.Omega.{arith}
use lib.ListN.{length, get_or, drop, drop_of_length-le}
use lib.Seq.{drop-cons}
use Rattle.paper.specs.Feed.{fletcher_step, fletcher_from}
use Rattle.paper.specs.declared.Sum.{Sum}
use Rattle.checksum.specs.Small.{Is}
use Rattle.checksum.specs.Raw.{Raw, added}

-- the remainders that a block leaves for its end
abbrev rest : Sum → Sum
rest s = record { first = s.first % 255; second = s.second % 255 }

pub record Within (s : Sum) (bytes : List ℕ) (raw : Sum) (i : ℕ) : Type 0 where
  pub short : length bytes ≤ 4096
  pub bounds : Raw i raw
  pub left : fletcher_from (rest raw) (drop i bytes) ≡ fletcher_from s bytes

mod-add : (x y : ℕ) → (x + y) % 255 ≡ (x % 255 + y % 255) % 255
mod-add x y = omega arith

-- it is the same whether remainders are taken at each byte or at the end
rest_added : (s : Sum) (b : ℕ) → rest (added s b) ≡ fletcher_step (rest s) b
unfolding fletcher_step
rest_added s b =
    let p : (s.first + b) % 255 ≡ (s.first % 255 + b) % 255 = omega arith in
    simp (mod-add s.second (s.first + b), p)

pub within_step : {s raw r : Sum} (bytes : List ℕ) {i : ℕ} → Within s bytes raw i → i < length bytes → get_or bytes i 0 < 256 → r ≡ added raw (get_or bytes i 0) → Within s bytes r (i + 1)
unfolding fletcher_from
within_step {s} {raw} bytes {i} h l b e =
    rw e
    (record {
      short = h.short;
      bounds = record { first≤ = omega (arith, h.bounds.first≤); second≤ = omega (arith, h.bounds.first≤, h.bounds.second≤, h.short) };
      left = rw (rest_added raw (get_or bytes i 0), add-one) (rw (drop-cons bytes i 0 l) at h.left);
    })

pub within_end : {s raw : Sum} (bytes : List ℕ) {i : ℕ} → Within s bytes raw i → length bytes ≤ i → Is (fletcher_from s bytes) (rest raw)
unfolding fletcher_from
within_end bytes h l = record { is = rw (drop_of_length-le bytes l) at h.left; small = record { first< = omega arith; second< = omega arith } }
