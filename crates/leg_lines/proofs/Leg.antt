-- A leg's line, from its ride and the stop walked to.
use mathlib.Core.Path.{◌≡◌, refl, sym}
use mathlib.Core.List.{List, [], ◌∷◌, ◌++◌, append_assoc}
use Prim.Native.Nat.{ℕ, ◌+◌}
use native.Mathlib.Omega.{arith}
use lib.ListN.{get_or}
use borrow.Author.Tests.{eq-eqb, ne_eqb}
use Rattle.laws.specs.Text.{ascii}
use Rattle.laws.specs.Below.{mark}
use Rattle.paper.specs.Lines.{space, newline, decimal, walked_word, leg_line}
use Rattle.lettering.specs.declared.Pen.{Pen}
use Rattle.lettering.specs.Put.{Wrote}
use Rattle.lettering.proofs.Puts.{wrote_append, wrote_same}
use Rattle.leg_lines.specs.Leg.{ride_words}

-- the stop walked to: `-` for none, or its number
pub put_dash : {stop : ℕ} {p q : Pen} → stop ≡ 4294967295 → Wrote (45 ∷ []) 1 p q → Wrote (walked_word stop) 10 p q
unfolding walked_word mark ascii
put_dash {stop} h w = rw (eq-eqb stop 4294967295 h) (wrote_same refl (omega arith) w)

pub put_stop : {stop : ℕ} {p q : Pen} → (stop ≡ 4294967295 → ⊥) → Wrote (decimal stop) 10 p q → Wrote (walked_word stop) 10 p q
unfolding walked_word mark
put_stop {stop} h w = rw (ne_eqb stop 4294967295 h) w

-- a leg's ride, and the stop walked to
pub put_legged :
    (legs : List ℕ) (from : ℕ) {p q r : Pen}
    → Wrote (ride_words (get_or legs from 0) (get_or legs (from + 1) 0) (get_or legs (from + 2) 0) (get_or legs (from + 3) 0)) 43 p q
    → Wrote ((space ∷ walked_word (get_or legs (from + 4) 0)) ++ (newline ∷ [])) 12 q r
    → Wrote (leg_line legs from) 55 p r
unfolding leg_line
put_legged legs from v w = wrote_same (sym (append_assoc (ride_words _ _ _ _) (space ∷ walked_word _) (newline ∷ []))) (omega arith) (wrote_append v w)
