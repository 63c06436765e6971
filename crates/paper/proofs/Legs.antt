-- The legs read back by the tie rule form a journey of just so many rides.
use mathlib.Core.Path.{◌≡◌, refl, sym, ap, ap₂, ◌∙◌}
use mathlib.Core.Logic.{◌≢◌}
use mathlib.Core.List.{List, [], ◌∷◌, ◌++◌}
use Rattle.std.specs.Prelude.{Some}
use Prim.Native.Nat.{ℕ, zero, suc, ◌<◌}
use native.Mathlib.Nat.{suc-ne-zero}
use native.Mathlib.Omega.{arith}
use lib.ListN.{length, length-append}
use Rattle.laws.specs.Below.{mark}
use Rattle.paper.specs.Timetable.{Tables}
use Rattle.paper.specs.Rows.{label, row_of}
use Rattle.paper.specs.Journey.{Step, Journey, stay, step}
use Rattle.paper.specs.Tie.{first_step, board_stop, legs_of, legs_of_journey, First, ByTieRule, no_rides, last}
use Rattle.paper.specs.declared.Question.{Question}
use Rattle.paper.specs.declared.Leg.{Leg}
use Rattle.paper.proofs.Usable.{Usable, Asked}
use Rattle.paper.proofs.Earliest.{stay_at, last_step, back_earlier}
use Rattle.paper.proofs.FirstStep.{first_step_lem, first_unique}

pub no_legs : {T : Tables} {q : Question} {k p u : ℕ} (j : Journey T q k p u) → k ≡ 0 → legs_of_journey j ≡ []
unfolding legs_of_journey
no_legs stay e = refl
no_legs (step {k} j x) e = absurd (suc-ne-zero k e)

-- a journey has a leg for each ride
pub journey_length : {T : Tables} {q : Question} {k p u : ℕ} (j : Journey T q k p u) → length (legs_of_journey j) ≡ k
unfolding legs_of_journey
journey_length stay = refl
journey_length (step j x) = rw (length-append, journey_length j) (omega arith)

-- one step back
pub legs_step : (T : Tables) (q : Question) (k p : ℕ) (g : Leg) → first_step T (row_of T q k) p (label (row_of T q (suc k)) p) ≡ Some g →
    legs_of T q (suc k) p ≡ legs_of T q k (board_stop T g) ++ (g ∷ [])
unfolding legs_of
legs_step T q k p g e = rw (e, legs_of)

-- p is reached in round k and not before
abbrev pub Gained : Tables → Question → ℕ → ℕ → Type 0
Gained T q zero p = label (row_of T q 0) p ≢ mark
Gained T q (suc k) p = label (row_of T q (suc k)) p < label (row_of T q k) p

module _ (T : Tables) (q : Question) (us : Usable T) (ask : Asked T q) where
  -- a step that is read back boards where round k gained
  pub back : (k b p : ℕ) → Gained T q (suc k) p → label (row_of T q k) b ≢ mark → Step T b (label (row_of T q k) b) p (label (row_of T q (suc k)) p) → Gained T q k b
  back zero b p h m x = m
  back (suc k) b p h m x = back_earlier T q us ask k b p h m x

  -- the tie rule's step, and where it leads
  pub read_back : (k p : ℕ) → Gained T q (suc k) p →
      (g : Leg) × (first_step T (row_of T q k) p (label (row_of T q (suc k)) p) ≡ Some g) × First T (row_of T q k) p (label (row_of T q (suc k)) p) g × Gained T q k (board_stop T g)
  read_back k p h =
      let x = first_step_lem T us (row_of T q k) p (label (row_of T q (suc k)) p) (last_step T q us ask k p h) in
      (x.0, x.1, x.2, back k (board_stop T x.0) p h x.2.reached x.2.the_step)

  -- the legs form a journey of just k rides, that comes to p at row k's time
  pub legs_journey : (k p : ℕ) → Gained T q k p → (j : Journey T q k p (label (row_of T q k) p)) × (legs_of_journey j ≡ legs_of T q k p)
  unfolding legs_of_journey
  legs_journey zero p h = let j = stay_at T q us ask p h in (j, no_legs j refl ∙ (unfold legs_of in refl))
  legs_journey (suc k) p h =
      let x = read_back k p h in
      let r = legs_journey k (board_stop T x.0) x.3 in
      (step r.0 x.2.the_step, ap₂ {C = List Leg} (λ a l. a ++ (l ∷ [])) r.1 x.2.leg≡ ∙ sym (legs_step T q k p x.0 x.1))

  pub legs_length : (k p : ℕ) → Gained T q k p → length (legs_of T q k p) ≡ k
  legs_length k p h = let x = legs_journey k p h in ap length (sym x.1) ∙ journey_length x.0

  -- and are those that the tie rule names
  pub legs_by_rule : (k p : ℕ) → Gained T q k p → ByTieRule T q k p (legs_of T q k p)
  legs_by_rule zero p h = unfold legs_of in no_rides
  legs_by_rule (suc k) p h =
      let x = read_back k p h in
      rw (legs_step T q k p x.0 x.1) (last x.2 (legs_by_rule k (board_stop T x.0) x.3))

-- the tie rule names one list of legs
pub by_rule_unique : (T : Tables) (q : Question) {k p : ℕ} {gs hs : List Leg} → ByTieRule T q k p gs → ByTieRule T q k p hs → gs ≡ hs
by_rule_unique T q no_rides no_rides = refl
by_rule_unique T q (last {k} {p} {g} {gs} x y) (last {g = h} {gs = hs} u v) =
    let e : g ≡ h = first_unique T (row_of T q k) p (label (row_of T q (suc k)) p) g h x u in
    let w : ByTieRule T q k (board_stop T g) hs = rw e v in
    ap₂ {C = List Leg} (λ a l. a ++ (l ∷ [])) (by_rule_unique T q y w) e
