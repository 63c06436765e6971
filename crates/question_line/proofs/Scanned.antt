-- The number's loop: from its state and the bytes left comes the same answer as from the start.
use mathlib.Core.Path.{◌≡◌, refl}
use mathlib.Core.Bool.{false, cond}
use mathlib.Core.List.{List, ◌∷◌}
use Prim.Native.Nat.{ℕ, suc, ◌+◌, ◌*◌, ◌-◌, ◌≤◌, ◌<◌}
use native.Mathlib.Numerals.{add-one}
use native.Mathlib.Omega.{arith}
use lib.Dec.{ltb, lit<}
use lib.ListN.{length, get_or, drop, drop_of_length-le}
use lib.Seq.{drop-cons}
use borrow.Author.Tests.{lt-ltb, le-ltb, le-leb, eq-eqb, ne_eqb}
use Rattle.std.specs.Prelude.{Some, None}
use Rattle.paper.specs.Lines.{is_digit}
use Rattle.question_line.specs.Asking.{field_from, field_at}

pub record Scanned (input : List ℕ) (at stop x i : ℕ) : Type 0 where
  pub small : x < 4294967296
  pub left : field_from stop at i x (drop i input) ≡ field_at input at stop

pub scanned_start : {input : List ℕ} {at stop : ℕ} → Scanned input at stop 0 at
scanned_start = record { small = lit< tt; left = refl }

module _ {input : List ℕ} {at stop x i : ℕ} (h : Scanned input at stop x i) where
  pub scanned_end : length input ≤ i → None ≡ field_at input at stop
  unfolding field_from
  scanned_end l = rw (drop_of_length-le input l) at h.left

  module _ (l : i < length input) where
    opened : field_from stop at i x (get_or input i 0 ∷ drop (suc i) input) ≡ field_at input at stop
    opened = rw (drop-cons input i 0 l) at h.left

    pub scanned_stop : get_or input i 0 ≡ stop → at < i → Some (x, i + 1) ≡ field_at input at stop
    unfolding field_from
    scanned_stop e k = rw (eq-eqb (get_or input i 0) stop e, lt-ltb at i k) at opened

    pub scanned_empty : get_or input i 0 ≡ stop → i ≤ at → None ≡ field_at input at stop
    unfolding field_from
    scanned_empty e k = rw (eq-eqb (get_or input i 0) stop e, le-ltb at i k) at opened

    module _ (e : get_or input i 0 ≡ stop → ⊥) where
      pub scanned_other : is_digit (get_or input i 0) ≡ false → None ≡ field_at input at stop
      unfolding field_from
      scanned_other f = rw (ne_eqb (get_or input i 0) stop e, f) at opened

      module _ (d : 48 ≤ get_or input i 0 × get_or input i 0 ≤ 57) where
        grown : cond (ltb (x * 10 + (get_or input i 0 - 48)) 4294967296) (field_from stop at (i + 1) (x * 10 + (get_or input i 0 - 48)) (drop (suc i) input)) None ≡ field_at input at stop
        unfolding field_from is_digit
        grown = rw (ne_eqb (get_or input i 0) stop e, le-leb 48 (get_or input i 0) d.0, le-leb (get_or input i 0) 57 d.1) at opened

        pub scanned_large : 4294967296 ≤ x * 10 + (get_or input i 0 - 48) → None ≡ field_at input at stop
        scanned_large k = rw (le-ltb (x * 10 + (get_or input i 0 - 48)) 4294967296 k) at grown

        pub scanned_step : {y : ℕ} → y ≡ x * 10 + (get_or input i 0 - 48) → y < 4294967296 → Scanned input at stop y (i + 1)
        scanned_step v k =
            record {
              small = k;
              left = rw (v, add-one) (rw (lt-ltb (x * 10 + (get_or input i 0 - 48)) 4294967296 (omega arith), add-one) at grown);
            }
