-- What the small tests of the search say, in the words of their code.
use Rattle.std.specs.Prelude.{Option, Some, None}
use mathlib.Core.Path.{◌≡◌, refl, sym, ap, ◌∙◌}
use mathlib.Core.Bool.{Bool, false, cond}
use mathlib.Core.List.{List}
use Prim.Native.Nat.{ℕ, zero, suc, ◌+◌, ◌-◌, ◌≤◌, ◌<◌}
use native.Mathlib.Numerals.{sub-one}
use native.Mathlib.Omega.{arith}
use borrow.Author.Tests.{eq-eqb, ne_eqb, lt-ltb, le-ltb}
use lib.Dec.{eqb, leb, ltb}
use lib.ListN.{get_or}
use Rattle.laws.specs.Below.{mark}
use Rattle.paper.specs.Rows.{label}
use Rattle.paper.proofs.Steps.{label_read}
use Rattle.extents.specs.declared.Extent.{Extent}
use Rattle.steps.specs.declared.Way.{Way}
use Rattle.steps.specs.Search.{stop_in, time_in, ends_in, Boarding, boards_in, way_of, on_foot}

module _ (t2 t4 row : List ℕ) (x : Extent) (j i : ℕ) (in4 : Boarding t2 t4 row x j i) where
  pub boards_unreached : get_or row (stop_in t2 x i) 0 ≡ 4294967295 → false ≡ boards_in t2 t4 row x j i
  unfolding boards_in mark
  boards_unreached e = rw (eq-eqb (label row (stop_in t2 x i)) 4294967295 (label_read row _ in4.stop ∙ e))

  pub boards_reached : (get_or row (stop_in t2 x i) 0 ≡ 4294967295 → ⊥) → leb (get_or row (stop_in t2 x i) 0) (time_in t4 x j i) ≡ boards_in t2 t4 row x j i
  unfolding boards_in mark
  boards_reached h = rw (label_read row (stop_in t2 x i) in4.stop, ne_eqb (get_or row (stop_in t2 x i) 0) 4294967295 h)

module _ (t2 t3 : List ℕ) (x : Extent) (j l s seconds v : ℕ) where
  pub ends_there : stop_in t2 x l ≡ s → eqb (time_in t3 x j l + seconds) v ≡ ends_in t2 t3 x j l s seconds v
  unfolding ends_in
  ends_there e = rw (eq-eqb (stop_in t2 x l) s e)

  pub ends_elsewhere : (stop_in t2 x l ≡ s → ⊥) → false ≡ ends_in t2 t3 x j l s seconds v
  unfolding ends_in
  ends_elsewhere h = rw (ne_eqb (stop_in t2 x l) s h)

module _ (seconds next : List ℕ) (p v : ℕ) where
  pub way_stays : (way : ℕ) → way ≡ 0 → Some (record { stop = p; seconds = 0; after = None }) ≡ way_of seconds next p v way
  unfolding way_of
  way_stays way e = rw e

  module _ (way : ℕ) (h : way ≡ 0 → ⊥) where
    abbrev takes : ℕ
    takes = get_or seconds (way - 1) 0

    way_walks : way_of seconds next p v way ≡ on_foot next p v (way - 1) takes
    unfolding way_of
    way_walks = go way h
      where
        go : (w : ℕ) → (w ≡ 0 → ⊥) → way_of seconds next p v w ≡ on_foot next p v (w - 1) (get_or seconds (w - 1) 0)
        go zero z = absurd (z refl)
        go (suc s) z = simp sub-one

    abbrev on_it : Option Way
    on_it = Some (record { stop = way - 1; seconds = takes; after = Some p })

    abbrev in_time : Option Way
    in_time = cond (ltb v (get_or next (way - 1) 0 + takes)) None on_it

    pub way_shut : takes ≡ 0 → None ≡ way_of seconds next p v way
    way_shut e = sym (way_walks ∙ ap (λ (b : Bool). cond b None in_time) (eq-eqb _ _ e))

    module _ (some_walk : takes ≡ 0 → ⊥) where
      walk_there : way_of seconds next p v way ≡ in_time
      walk_there = way_walks ∙ ap (λ (b : Bool). cond b None in_time) (ne_eqb _ _ some_walk)

      late : v < get_or next (way - 1) 0 + takes → None ≡ way_of seconds next p v way
      late l = sym (walk_there ∙ ap (λ (b : Bool). cond b None on_it) (lt-ltb _ _ l))

      -- it takes longer than v, or has to begin before the next row's label
      pub way_long : v < takes → None ≡ way_of seconds next p v way
      way_long l = late (omega arith)

      pub way_late : takes ≤ v → v - takes < get_or next (way - 1) 0 → None ≡ way_of seconds next p v way
      way_late h l = late (omega arith)

      pub way_open : takes ≤ v → get_or next (way - 1) 0 ≤ v - takes → on_it ≡ way_of seconds next p v way
      way_open h l = sym (walk_there ∙ ap (λ (b : Bool). cond b None on_it) (le-ltb v (get_or next (way - 1) 0 + takes) (omega arith)))

-- the five ways in which the code answers
pub ruleset ways = (way_stays, way_shut, way_long, way_late, way_open)
