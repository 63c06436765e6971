-- Legs read back one by one: what the loop that writes them keeps, from the last leg to the first.
use Rattle.std.specs.Prelude.{Option, Some, None}
use mathlib.Core.Path.{◌≡◌, refl, sym, ap, ap₂, ◌∙◌}
use mathlib.Core.List.{List, [], ◌∷◌, ◌++◌, append_assoc, append-nil}
use Prim.Native.Nat.{ℕ, suc, ◌+◌, ◌*◌, ◌-◌, ◌≤◌, ◌<◌}
use native.Mathlib.Numerals.{sub-one}
use native.Mathlib.Omega.{arith}
use lib.ListN.{length}
use lib.Seq.{sets}
use Rattle.paper.specs.Timetable.{Tables, n_of}
use Rattle.paper.specs.Tie.{board_stop, numbers_of}
use Rattle.paper.specs.Reply.{leg_numbers}
use Rattle.paper.specs.declared.Leg.{Leg}
use Rattle.paper.proofs.Usable.{stop_is}
use Rattle.journeys.specs.ReadBack.{step_in, Placed, placed_stop, legs_in, Leads, here, back, Traceable}
use Rattle.paper.proofs.RouteEnds.{head_in, positions_in}
use Rattle.laws.proofs.Found.{some_none, some_same}
use Rattle.laws.proofs.Runs.{sets_front}

-- the step that is found, and where it leads
record Back (T : Tables) (labels : List ℕ) (k p : ℕ) : Type 0 where
  leg : Leg
  stop< : p < T.stops
  found : step_in T labels k p ≡ Some leg
  route< : leg.route < T.routes
  board< : leg.board < n_of T leg.route
  on : Leads T labels k (board_stop T leg)

back_of : (T : Tables) (labels : List ℕ) (j p : ℕ) → Leads T labels j p → 0 < j → Back T labels (j - 1) p
back_of T labels j p here h = absurd (omega arith)
back_of T labels j p (back g s f r b on) h = simp sub-one (record { leg = g; stop< = s; found = f; route< = r; board< = b; on = on })

module _ (T : Tables) (labels : List ℕ) (k p : ℕ) (b : Back T labels k p) {r : Option Leg} (e : r ≡ step_in T labels k p) where
  the_leg : (g : Leg) → r ≡ Some g → b.leg ≡ g
  the_leg g q = some_same (sym b.found ∙ sym e ∙ q)

  not_nothing : r ≡ None → ⊥
  not_nothing q = some_none b.found (sym e ∙ q)

-- the legs below j are still to be found, those from j on are written
pub record Tracing (T : Tables) (labels : List ℕ) (k target : ℕ) (legs₀ legs : List ℕ) (p j : ℕ) : Type 0 where
  pub ok : Traceable T labels (length legs₀) k target
  pub few : j ≤ k
  pub leads : Leads T labels j p
  pub tail : List Leg
  pub parts : legs_in T labels k target ≡ legs_in T labels j p ++ tail
  pub written : legs ≡ sets legs₀ (k * 40 - 40 + j * 5) (leg_numbers tail)

pub legs_in_step : (T : Tables) (labels : List ℕ) (k p : ℕ) (g : Leg) → step_in T labels k p ≡ Some g → legs_in T labels (suc k) p ≡ legs_in T labels k (board_stop T g) ++ (g ∷ [])
unfolding legs_in
legs_in_step T labels k p g e = rw (e, legs_in)

pub tracing_start : {T : Tables} {labels : List ℕ} {k p : ℕ} (d : List ℕ) → Traceable T labels (length d) k p → Tracing T labels k p d d p k
unfolding leg_numbers
tracing_start {T} {labels} {k} {p} d ok =
    record { ok = ok; few = omega arith; leads = ok.leads; tail = []; parts = sym (append-nil (legs_in T labels k p)); written = refl }

module _ {T : Tables} {labels : List ℕ} {k target : ℕ} {legs₀ legs : List ℕ} {p j : ℕ} (t : Tracing T labels k target legs₀ legs p j) where
  module _ (l : 0 < j) where
    found_back : Back T labels (j - 1) p
    found_back = back_of T labels j p t.leads l

    module _ {r : Option Leg} (e : r ≡ step_in T labels (j - 1) p) where
      pub tracing_found : r ≡ None → ⊥
      tracing_found = not_nothing T labels (j - 1) p found_back e

      module _ (g : Leg) (q : r ≡ Some g) where
        same : found_back.leg ≡ g
        same = the_leg T labels (j - 1) p found_back e g q

        route_in : g.route < T.routes
        route_in = rw (← same) found_back.route<

        board_in : g.board < n_of T g.route
        board_in = rw (← same) found_back.board<

        pub tracing_placed : Placed T.t1 T.t2 g
        tracing_placed = record {
          head = head_in T t.ok.fit g.route route_in;
          position = let a = positions_in T t.ok.fit g.route route_in in let b = board_in in omega arith;
        }

        stop_at_lem : placed_stop T.t1 T.t2 g ≡ board_stop T g
        unfolding board_stop
        stop_at_lem = sym (stop_is T g.route g.board board_in)

        on_from : Leads T labels (j - 1) (board_stop T g)
        on_from = rw (← same) found_back.on

        found_it : step_in T labels (j - 1) p ≡ Some g
        found_it = rw (← same) found_back.found

        legs_split : legs_in T labels j p ≡ legs_in T labels (j - 1) (board_stop T g) ++ (g ∷ [])
        legs_split = let z : j ≡ suc (j - 1) = omega arith in ap (λ (n : ℕ). legs_in T labels n p) z ∙ legs_in_step T labels (j - 1) p g found_it

        pub tracing_step : {at : ℕ} {legs' : List ℕ} {p' : ℕ} → at ≡ k * 40 - 40 + (j - 1) * 5 → legs' ≡ sets legs at (numbers_of g) → p' ≡ placed_stop T.t1 T.t2 g
            → Tracing T labels k target legs₀ legs' p' (j - 1)
        unfolding leg_numbers
        tracing_step {legs'} {p'} place w s =
            let at : p' ≡ board_stop T g = s ∙ stop_at_lem in
            record {
              ok = t.ok;
              few = let a = t.few in omega arith;
              leads = rw at on_from;
              tail = g ∷ t.tail;
              parts =
                  t.parts
                  ∙ ap (λ (gs : List Leg). gs ++ t.tail) legs_split
                  ∙ append_assoc (legs_in T labels (j - 1) (board_stop T g)) (g ∷ []) t.tail
                  ∙ ap (λ (n : ℕ). legs_in T labels (j - 1) n ++ (g ∷ t.tail)) (sym at);
              written =
                  w
                  ∙ ap₂ {C = List ℕ} (λ (xs : List ℕ) (n : ℕ). sets xs n (numbers_of g)) t.written place
                  ∙ sets_front (numbers_of g) (leg_numbers t.tail) legs₀ (k * 40 - 40 + (j - 1) * 5) (k * 40 - 40 + j * 5) (omega arith);
            }

  pub tracing_end : j ≤ 0 → legs ≡ sets legs₀ (k * 40 - 40) (leg_numbers (legs_in T labels k target))
  unfolding legs_in
  tracing_end l =
      let z : j ≡ 0 = omega arith in
      let place : k * 40 - 40 + j * 5 ≡ k * 40 - 40 = omega arith in
      let all : legs_in T labels k target ≡ t.tail = t.parts ∙ ap (λ (n : ℕ). legs_in T labels n p ++ t.tail) z in
      t.written ∙ ap₂ {C = List ℕ} (λ (n : ℕ) (gs : List Leg). sets legs₀ n (leg_numbers gs)) place (sym all)
