-- No second answer and no second content of a lent table can meet the promise of `read`, nor that of `write`.
use mathlib.Core.Path.{◌≡◌, sym, ◌∙◌}
use mathlib.Core.List.{List}
use Prim.Native.Nat.{ℕ}
use Rattle.std.specs.Prelude.{Result}
use Rattle.paper.specs.Timetable.{Tables}
use Rattle.paper.specs.Reading.{Outcome}
use Rattle.paper.specs.declared.Heads.{Heads}
use Rattle.paper.specs.declared.Refusal.{Refusal}
use Rattle.feed.specs.State.{Lists, Leaves}
use Rattle.feed.specs.Writing.{Sends}

pub record SameRead (r s : Result Heads Refusal) (x y : Lists) : Type 0 where
  pub answer : r ≡ s
  pub routes : x.routes ≡ y.routes
  pub positions : x.positions ≡ y.positions
  pub arrivals : x.arrivals ≡ y.arrivals
  pub departures : x.departures ≡ y.departures
  pub walks : x.walks ≡ y.walks

pub one_reading : {o : Outcome} {r s : Result Heads Refusal} {old x y : Lists} → Leaves o r old x → Leaves o s old y → SameRead r s x y
one_reading a b =
    record {
      answer = a.answer ∙ sym b.answer;
      routes = a.routes ∙ sym b.routes;
      positions = a.positions ∙ sym b.positions;
      arrivals = a.arrivals ∙ sym b.arrivals;
      departures = a.departures ∙ sym b.departures;
      walks = a.walks ∙ sym b.walks;
    }

pub one_writing : {T : Tables} {r s : Result ℕ Refusal} {d₀ d e : List ℕ} → Sends T r d₀ d → Sends T s d₀ e → (r ≡ s) × (d ≡ e)
one_writing x y = (x.answer ∙ sym y.answer, x.out ∙ sym y.out)
