-- Results that are refused alike, and those that are not.
use mathlib.Core.Path.{◌≡◌, ap}
use Rattle.std.specs.Prelude.{Result, Err}
use Rattle.paper.specs.Rules.{Refusal}

module _ {A : Type 0} where
  pub refused_same : {x y : Refusal} → ◌≡◌ {A = Result A Refusal} (Err x) (Err y) → x ≡ y
  refused_same e = cc

  pub refused_number : {x y : Refusal} → ◌≡◌ {A = Result A Refusal} (Err x) (Err y) → x.number ≡ y.number
  refused_number e = ap (λ (x : Refusal). x.number) (refused_same e)
