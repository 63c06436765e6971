-- The tests of a route record, one after the other, and the number that each gives.
use mathlib.Core.Path.{◌≡◌, sym, ◌∙◌}
use mathlib.Core.Bool.{Bool, true, false}
use mathlib.Core.List.{List}
use Prim.Native.Nat.{ℕ, suc, ◌+◌, ◌≤◌, ◌<◌}
use native.Mathlib.Omega.{arith}
use borrow.Author.Tests.{le-leb, lt-leb}
use Rattle.paper.specs.Rules.{refusal, counted}
use Rattle.paper.specs.Reading.{marked}
use Rattle.paper.specs.declared.Refusal.{Refusal}
use Rattle.route_records.specs.Keep.{Refused}
use Rattle.route_records.specs.State.{route_bad}
use Rattle.route_records.specs.declared.RoutesRead.{RoutesRead}

pub refused : {b n at : ℕ} {x : Refusal} → b ≡ suc n → x ≡ refusal (suc n) at → Refused b at x
refused e i = rw e (record { met = λ z. omega arith; is = i })

module _ (f : List ℕ) (e n m : ℕ) (s : RoutesRead) {b : Bool} (stands : b ≡ marked f e s.at 5 0x52 0x54) where
  pub wrong_mark : b ≡ false → route_bad f e n m s ≡ 3
  unfolding route_bad
  wrong_mark h = simp (sym stands ∙ h)

  module _ (right : b ≡ true) {k : Bool} (counts : k ≡ counted n m s.trips s.events) where
    pub wrong_counts : k ≡ false → route_bad f e n m s ≡ 5
    unfolding route_bad
    wrong_counts h = simp (sym stands ∙ right, sym counts ∙ h)

    pub rest_cut : k ≡ true → e < s.at + 5 + n → route_bad f e n m s ≡ 3
    unfolding route_bad
    rest_cut h l = simp (sym stands ∙ right, sym counts ∙ h, lt-leb _ _ l)

    pub rest_fits : k ≡ true → s.at + 5 + n ≤ e → route_bad f e n m s ≡ 0
    unfolding route_bad
    rest_fits h l = simp (sym stands ∙ right, sym counts ∙ h, le-leb _ _ l)
