-- 11: where the walks of a stop begin. The walks rise, so those of one stop stand together, and no two go the same way.
use mathlib.Core.Path.{◌≡◌, sym, ◌∙◌}
use mathlib.Core.Logic.{⊎_elim}
use mathlib.Core.Bool.{Bool}
use mathlib.Core.List.{List}
use Prim.Native.Nat.{ℕ, ◌+◌, ◌*◌, ◌≤◌, ◌<◌}
use native.Mathlib.Omega.{arith}
use lib.Dec.{leb}
use lib.ListN.{length, get_or, set, length-set}
use lib.Seq.{get_or-set_same, get_or-set_other}
use borrow.Author.Tests.{leb-true, leb-false, le-leb, lt-leb}
use Rattle.laws.proofs.Tests.{by_lt}
use Rattle.laws.proofs.Checking.{climb_over}
use Rattle.laws.proofs.Below.{Passed, first_below_le, first_below_not, first_below_hit, first_below_is, first_below-only}
use Rattle.paper.specs.Timetable.{Tables, walk_from, walk_to}
use Rattle.footpaths.proofs.Stands.{Stands}
use Rattle.closure.specs.Closed.{Walked, begin_of, BeginsPast}

abbrev pub not_before : Tables → ℕ → ℕ → Bool
not_before T s w = leb s (walk_from T w)

module _ (T : Tables) (s : ℕ) where
  pub past_passed : (k : ℕ) → BeginsPast T s k → Passed (not_before T s) k
  past_passed k h w l = lt-leb s (walk_from T w) (h.past w l)

  pub begin_here : (w : ℕ) → w < T.walks → Passed (not_before T s) w → s ≤ walk_from T w → w ≡ begin_of T s
  unfolding begin_of
  begin_here w l h t = sym (first_below_is T.walks (not_before T s) w l (le-leb s (walk_from T w) t) h)

  pub begin_end : (w : ℕ) → T.walks ≤ w → w ≤ T.walks → Passed (not_before T s) w → T.walks ≡ begin_of T s
  unfolding begin_of
  begin_end w l u h =
      sym (first_below-only T.walks (not_before T s) T.walks (omega arith) (λ x m. h x (omega arith)) (λ m. absurd (omega arith)))

  pub begin_most : begin_of T s ≤ T.walks
  unfolding begin_of
  begin_most = first_below_le T.walks (not_before T s)

  pub begin_before : (w : ℕ) → w < begin_of T s → walk_from T w < s
  unfolding begin_of
  begin_before w l = leb-false s (walk_from T w) (first_below_not T.walks (not_before T s) w l)

  begin_at : begin_of T s < T.walks → s ≤ walk_from T (begin_of T s)
  unfolding begin_of
  begin_at l = leb-true s _ (first_below_hit T.walks (not_before T s) l)

-- the begins of the stops below s are in xs, and k is the last of them
pub record Begun (T : Tables) (s k : ℕ) (xs : List ℕ) : Type 0 where
  pub past : BeginsPast T s k
  pub long : length xs ≡ 257
  pub is : (x : ℕ) → x < s → get_or xs x 0 ≡ begin_of T x

module _ (T : Tables) (h : Walked T) where
  pub begun_next : (s k : ℕ) (xs : List ℕ) {r : ℕ} → Begun T s k xs → s < 257 → r ≡ begin_of T s → Begun T (s + 1) r (set xs s r)
  begun_next s k xs {r} b l e =
      let long : length xs ≡ 257 = b.long in
      record {
        past = record {
          walks≤ = h.walks≤;
          long = h.long;
          upto = omega (arith, begin_most T s);
          past = λ w m. omega (arith, begin_before T s w (omega arith));
        };
        long = length-set xs s r ∙ long;
        is = λ x m. by_lt x s
            (λ n. get_or-set_other xs s x r 0 (λ z. omega arith) ∙ b.is x n)
            (λ n. let z : x ≡ s = omega arith in rw z (get_or-set_same xs s r 0 (omega arith) ∙ e));
      }

-- ---- walks that rise

module _ (T : Tables) (h : Walked T) where
  pub stands : (w : ℕ) → w < T.walks → Stands T w
  stands w l = record { small = omega (arith, h.walks≤); table = h.long }

  abbrev key : ℕ → ℕ
  key w = walk_from T w * 256 + walk_to T w

  pub to_small : (w : ℕ) → w < T.walks → walk_to T w < 256
  to_small w l = omega (arith, (h.walk w l).to<, h.stops≤)

  key_rises : (w : ℕ) → w + 1 < T.walks → key w < key (w + 1)
  key_rises w l =
      let a = to_small w (omega arith) in
      let b = to_small (w + 1) l in
      ⊎_elim (λ x. omega arith) (λ x. omega (arith, x.0, x.1)) (h.rising w l)

  pub key_over : (v w : ℕ) → v < w → w < T.walks → key v < key w
  key_over v w l m = climb_over key T.walks key_rises v w l m

  from_over : (v w : ℕ) → v ≤ w → w < T.walks → walk_from T v ≤ walk_from T w
  from_over v w l m =
      by_lt v w
      (λ n. omega (arith, key_over v w n m, to_small v (omega arith), to_small w m))
      (λ n. let z : v ≡ w = omega arith in rw z (omega arith))

  -- a walk at or after the begin of s is from s or a later stop
  pub begin_past : (s w : ℕ) → begin_of T s ≤ w → w < T.walks → s ≤ walk_from T w
  begin_past s w l m = omega (arith, begin_at T s (omega arith), from_over (begin_of T s) w l m)

  pub from_is : (a w : ℕ) → begin_of T a ≤ w → w < begin_of T (a + 1) → walk_from T w ≡ a
  from_is a w l m =
      let n : w < T.walks = omega (arith, begin_most T (a + 1)) in
      omega (arith, begin_past a w l n, begin_before T (a + 1) w m)
