-- 11: the walks that follow a walk, and the loop over all of them.
use mathlib.Core.Path.{◌≡◌, sym, ◌∙◌}
use mathlib.Core.Bool.{Bool, false, not, ◌||◌}
use mathlib.Core.List.{List}
use Prim.Native.Nat.{ℕ, ◌+◌, ◌≤◌, ◌<◌}
use native.Mathlib.Omega.{arith}
use lib.Dec.{eqb, ltb}
use lib.ListN.{length, get_or}
use borrow.Author.Tests.{eqb-true, eqb-false, eq-eqb, ne_eqb, lt-ltb, le-ltb}
use Rattle.laws.specs.Below.{any_below}
use Rattle.laws.proofs.Tests.{by_test, by_lt, both_ways}
use Rattle.laws.proofs.Below.{Passed, passed_more, any_below_next, any_below_hit, any_below_of, any_below_none, any_below_all_false}
use Rattle.paper.specs.Timetable.{Tables, walk_from, walk_to, walk_seconds}
use Rattle.paper.specs.Rules.{within, gap, opens}
use Rattle.paper.proofs.Places.{via_right, via_whole}
use Rattle.closure.specs.Closed.{Walked, begin_of, SecondsFrom, OnWalk}
use Rattle.footpaths.proofs.Stands.{Stands}
use Rattle.closure.proofs.Begins.{begin_most, begin_before, stands, to_small, begin_past, from_is}

-- ---- one pair of walks

module _ (T : Tables) (h : Walked T) (v w : ℕ) (xs : List ℕ) (near : SecondsFrom T (walk_from T v) xs) (lv : v < T.walks) (lw : w < T.walks) where
  abbrev direct : ℕ
  direct = get_or xs (walk_to T w) 0

  abbrev both : ℕ
  both = walk_seconds T v + walk_seconds T w

  abbrev closed : Bool
  closed = any_below T.walks (within T (walk_from T v) (walk_to T w) both)

  closed_is : (walk_to T w ≡ walk_from T v → ⊥) → not closed ≡ ltb both direct
  closed_is other =
      by_test closed
      (λ t. let x = via_right T (walk_from T v) (walk_to T w) both t in
      let d : direct ≡ walk_seconds T x.walk = rw x.to at (near.every x.walk x.walk< x.from) in
      let l = x.no_longer in
      rw (t, le-ltb both direct (omega arith)))
      (λ f. by_lt both direct (λ l. rw (f, lt-ltb both direct l)) (λ l.
      let u = near.only (walk_to T w) (to_small T h w lw) other (omega (arith, (h.walk v lv).seconds≤, (h.walk w lw).seconds≤)) in
      both_ways (via_whole T (walk_from T v) (walk_to T w) both (record {
        walk = u.walk;
        walk< = u.walk<;
        from = u.from;
        to = u.to;
        no_longer = omega (arith, u.no_longer);
      })) f))

  -- the code's test of the pair: back to where it began is no farther than nothing
  pub gap_test : walk_from T w ≡ walk_to T v → ltb both direct ≡ gap T v w
  unfolding gap
  gap_test e =
      by_test (eqb (walk_to T w) (walk_from T v))
      (λ t. let z : direct ≡ 0 = rw (← eqb-true (walk_to T w) (walk_from T v) t) at near.self in
      rw (t, z, eq-eqb (walk_from T w) (walk_to T v) e, le-ltb both 0 (omega arith)))
      (λ f. rw (eq-eqb (walk_from T w) (walk_to T v) e, f, closed_is (eqb-false (walk_to T w) (walk_from T v) f)))

pub gap_elsewhere : (T : Tables) (v w : ℕ) → (walk_from T w ≡ walk_to T v → ⊥) → gap T v w ≡ false
unfolding gap
gap_elsewhere T v w n = rw (ne_eqb (walk_from T w) (walk_to T v) n)

-- ---- the walks that follow walk v

pub record Following (T : Tables) (v w : ℕ) (wrong : Bool) : Type 0 where
  pub begun : begin_of T (walk_to T v) ≤ w
  pub upto : w ≤ T.walks
  pub told : wrong ≡ any_below w (gap T v)

module _ (T : Tables) (v : ℕ) where
  pub following_start : {w : ℕ} → w ≡ begin_of T (walk_to T v) → Following T v w false
  following_start {w} e =
      record {
        begun = omega arith;
        upto = omega (arith, begin_most T (walk_to T v));
        told = sym (any_below_all_false w (gap T v) (λ x l. gap_elsewhere T v x (λ z. omega (arith, begin_before T (walk_to T v) x (omega arith)))));
      }

  module _ (h : Walked T) where
    pub follows : (w : ℕ) {wrong : Bool} {end : ℕ} → Following T v w wrong → end ≡ begin_of T (walk_to T v + 1) → w < end →
        (w < T.walks) × (walk_from T w ≡ walk_to T v) × (walk_to T w < 256)
    follows w n e l =
        let m : w < begin_of T (walk_to T v + 1) = omega arith in
        let b : w < T.walks = omega (arith, begin_most T (walk_to T v + 1)) in
        (b, from_is T h (walk_to T v) w n.begun m, to_small T h w b)

    pub following_next : (w : ℕ) {wrong test : Bool} → Following T v w wrong → w < T.walks → test ≡ gap T v w → Following T v (w + 1) (wrong || test)
    following_next w n l t =
        let b = n.begun in
        record { begun = omega arith; upto = omega arith; told = rw (n.told, t) (sym (any_below_next w (gap T v))) }

    pub following_end : (w : ℕ) {wrong : Bool} {end : ℕ} → Following T v w wrong → end ≡ begin_of T (walk_to T v + 1) → end ≤ w → wrong ≡ opens T v
    unfolding opens
    following_end w n e l =
        let u = n.upto in
        n.told ∙ by_test (any_below w (gap T v))
        (λ t. let x = any_below_hit w (gap T v) t in
        let m : x.0 < w = x.1 in
        t ∙ sym (any_below_of T.walks (gap T v) x.0 (omega arith) x.2))
        (λ f. f ∙ sym (any_below_all_false T.walks (gap T v) (λ x m. by_lt x w
        (λ k. any_below_none w (gap T v) f x k)
        (λ k. gap_elsewhere T v x (λ z. omega (arith, begin_past T h (walk_to T v + 1) x (omega arith) m))))))

-- what a turn of the loop over these walks reads
pub record Pair (T : Tables) (seconds : List ℕ) (v w : ℕ) : Type 0 where
  pub first : Stands T v
  pub second : Stands T w
  pub to< : walk_to T w < length seconds
  pub both≤ : walk_seconds T v + walk_seconds T w ≤ 7200
  pub below : w < T.walks
  pub follows : walk_from T w ≡ walk_to T v

pub pair : (T : Tables) (begins seconds : List ℕ) (v w : ℕ) {wrong : Bool} → OnWalk T begins seconds v → Following T v w wrong →
    w < get_or begins (walk_to T v + 1) 0 → Pair T seconds v w
pair T begins seconds v w h n l =
    let to = to_small T h.walked v h.below in
    let f = follows T v h.walked w n (h.starts.is (walk_to T v + 1) (omega arith)) l in
    let b : w < T.walks = f.0 in
    record {
      first = stands T h.walked v h.below;
      second = stands T h.walked w b;
      to< = omega (arith, f.2, h.near.long);
      both≤ = omega (arith, (h.walked.walk v h.below).seconds≤, (h.walked.walk w b).seconds≤);
      below = b;
      follows = f.1;
    }

-- what the code reads before the loop
pub record First (T : Tables) (begins : List ℕ) (v : ℕ) : Type 0 where
  pub stands : Stands T v
  pub to< : walk_to T v < 257
  pub next< : walk_to T v + 1 < 257
  pub after : walk_to T v + 1 < length begins

pub first : (T : Tables) (begins seconds : List ℕ) (v : ℕ) → OnWalk T begins seconds v → First T begins v
first T begins seconds v h =
    let to = to_small T h.walked v h.below in
    record {
      stands = stands T h.walked v h.below;
      to< = omega arith;
      next< = omega arith;
      after = omega (arith, h.starts.long);
    }

-- ---- the loop over the walks

pub record Looking (T : Tables) (v from : ℕ) (xs : List ℕ) : Type 0 where
  pub upto : v ≤ T.walks
  pub passed : Passed (opens T) v
  pub near : SecondsFrom T from xs

-- the array is that of the stop that is looked at
pub record Turned (T : Tables) (a from : ℕ) (xs : List ℕ) : Type 0 where
  pub is : from ≡ a
  pub near : SecondsFrom T a xs

module _ (T : Tables) where
  pub turned_new : (a : ℕ) {from : ℕ} {xs ys : List ℕ} → from ≡ a → xs ≡ ys → SecondsFrom T a ys → Turned T a from xs
  turned_new a e q n = record { is = e; near = rw q n }

  pub turned_old : (v : ℕ) {last from : ℕ} {xs ys : List ℕ} → Looking T v last ys → walk_from T v ≡ last → from ≡ last → xs ≡ ys → Turned T (walk_from T v) from xs
  turned_old v n z e q = record { is = e ∙ sym z; near = rw (q, z) n.near }

  pub looking_next : (v : ℕ) {last from : ℕ} {xs ys : List ℕ} → v < T.walks → Looking T v last ys → Turned T (walk_from T v) from xs → opens T v ≡ false → Looking T (v + 1) from xs
  looking_next v l n t f =
      record {
        upto = omega arith;
        passed = passed_more (opens T) v n.passed f;
        near = rw t.is t.near;
      }
