-- What `walk` keeps, walk by walk.
use mathlib.Core.Path.{◌≡◌, refl, sym, ap, ◌∙◌}
use mathlib.Core.Logic.{◌≢◌}
use mathlib.Core.List.{List}
use Prim.Native.Nat.{ℕ, ◌+◌, ◌*◌, ◌≤◌, ◌<◌, min}
use native.Mathlib.Omega.{arith}
use borrow.Author.Tests.{eq-eqb, ne_eqb}
use lib.Dec.{eqb}
use lib.ListN.{length, get_or}
use Rattle.laws.specs.Below.{mark, only, min_below}
use Rattle.laws.specs.Lists.{lower_by}
use Rattle.laws.proofs.Below.{only_true, only_false, min_below-mark, min_below_next}
use Rattle.laws.proofs.Lists.{length-lower_by, lower_by_none, lower_by_more}
use Rattle.paper.specs.Timetable.{Tables}
use Rattle.paper.specs.Rows.{label}
use Rattle.paper.proofs.Steps.{label_read}
use Rattle.scan.specs.Walk.{walk_below, Walkable, walked_on}

pub record Walking (T : Tables) (reach next₀ next : List ℕ) (work w : ℕ) : Type 0 where
  pub below : w ≤ T.walks
  pub next_is : next ≡ lower_by (walk_below T.t5 w reach) next₀
  pub counted : work ≡ w

module _ (T : Tables) (reach next₀ : List ℕ) where
  pub walking_start : ((s : ℕ) → s < length next₀ → get_or next₀ s 0 ≤ mark) → Walking T reach next₀ next₀ 0 0
  unfolding walk_below min_below
  walking_start small = record { below = omega arith; next_is = lower_by_none (walk_below T.t5 0 reach) next₀ 0 (λ s l. refl) small; counted = refl }

  module _ (pre : Walkable T (length reach) (length next₀)) {next : List ℕ} {work w : ℕ} (wa : Walking T reach next₀ next work w) where
    pub next_long : length next ≡ length next₀
    next_long = ap length wa.next_is ∙ length-lower_by (walk_below T.t5 w reach) next₀

    module _ (h : w < T.walks) where
      -- from, to and seconds of walk w, and when it arrives
      from : ℕ
      from = get_or T.t5 (w * 3) 0

      to : ℕ
      to = get_or T.t5 (w * 3 + 1) 0

      arrives : ℕ
      arrives = get_or reach from 0 + get_or T.t5 (w * 3 + 2) 0

    at_to : (h : w < T.walks) → walk_below T.t5 (w + 1) reach (to h) ≡ min (walk_below T.t5 w reach (to h)) (min (arrives h) mark)
    unfolding walk_below from to arrives
    at_to h =
        let f : ℕ → ℕ = λ w. only (eqb (get_or T.t5 (w * 3 + 1) 0) (to h)) (label reach (get_or T.t5 (w * 3) 0) + get_or T.t5 (w * 3 + 2) 0) in
        let e = only_true (eqb (to h) (to h)) (label reach (from h) + get_or T.t5 (w * 3 + 2) 0) (eq-eqb (to h) (to h) refl) in
        let l = label_read reach (from h) (pre.standing w h).from< in
        omega (arith, min_below_next w f, min_below-mark w f, e, l)

    elsewhere : (h : w < T.walks) (s : ℕ) → s ≢ to h → walk_below T.t5 (w + 1) reach s ≡ walk_below T.t5 w reach s
    unfolding walk_below to
    elsewhere h s ne =
        let f : ℕ → ℕ = λ w. only (eqb (get_or T.t5 (w * 3 + 1) 0) s) (label reach (get_or T.t5 (w * 3) 0) + get_or T.t5 (w * 3 + 2) 0) in
        let e = only_false (eqb (to h) s) (label reach (get_or T.t5 (w * 3) 0) + get_or T.t5 (w * 3 + 2) 0) (ne_eqb (to h) s (λ q. ne (sym q))) in
        omega (arith, min_below_next w f, min_below-mark w f, e)

    pub walking_step : {next' : List ℕ} → w < T.walks → next' ≡ walked_on T.t5 w reach next → Walking T reach next₀ next' (work + 1) (w + 1)
    unfolding from to arrives
    walking_step h e =
        record {
          below = omega arith;
          next_is = e ∙ rw wa.next_is
              (lower_by_more (walk_below T.t5 w reach) (walk_below T.t5 (w + 1) reach) next₀ (to h) (min (arrives h) mark) (pre.standing w h).to< (at_to h) (elsewhere h));
          counted = omega (arith, wa.counted);
        }
