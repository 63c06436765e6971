-- 11: the seconds of the walks from one stop.
use mathlib.Core.Path.{◌≡◌, sym, ◌∙◌}
use mathlib.Core.List.{List}
use Prim.Native.Nat.{ℕ, ◌+◌, ◌≤◌, ◌<◌}
use native.Mathlib.Omega.{arith}
use lib.Dec.{eqb}
use lib.ListN.{length, get_or, set, replicate, length-replicate, get_or-replicate, length-set}
use lib.Seq.{get_or-set_same, get_or-set_other}
use borrow.Author.Tests.{eqb-true, eqb-false}
use Rattle.laws.proofs.Tests.{by_test, by_lt}
use Rattle.paper.specs.Timetable.{Tables, walk_from, walk_to, walk_seconds}
use Rattle.paper.specs.Rules.{Via}
use Rattle.closure.specs.Closed.{Walked, begin_of, SecondsFrom}
use Rattle.footpaths.proofs.Stands.{Stands}
use Rattle.closure.proofs.Begins.{begin_most, begin_before, stands, to_small, key_over, begin_past, from_is}

-- xs has the seconds of the walks from a below w
pub record Near (T : Tables) (a w : ℕ) (xs : List ℕ) : Type 0 where
  pub begun : begin_of T a ≤ w
  pub long : length xs ≡ 256
  pub every : (v : ℕ) → v < w → walk_from T v ≡ a → get_or xs (walk_to T v) 0 ≡ walk_seconds T v
  pub self : get_or xs a 0 ≡ 0
  pub only : (c : ℕ) → c < 256 → (c ≡ a → ⊥) → get_or xs c 0 < 4294967295 → Via T a c (get_or xs c 0)

module _ (T : Tables) (a : ℕ) where
  abbrev marks : List ℕ
  marks = replicate 256 4294967295

  pub near_start : {w : ℕ} → a < 256 → w ≡ begin_of T a → Near T a w (set marks a 0)
  near_start {w} l e =
      let long : length marks ≡ 256 = length-replicate {A = ℕ} 256 4294967295 in
      record {
        begun = omega arith;
        long = length-set marks a 0 ∙ long;
        every = λ v m z. absurd (omega (arith, begin_before T a v (omega arith)));
        self = get_or-set_same marks a 0 0 (omega arith);
        only = λ c b n m. absurd (omega (arith, get_or-set_other marks a c 0 0 n, get_or-replicate {A = ℕ} 256 c 4294967295 0 b));
      }

  module _ (h : Walked T) where
    -- what a turn of the loop reads
    pub record Turn (w : ℕ) : Type 0 where
      pub stands : Stands T w
      pub below : w < T.walks
      pub from_here : walk_from T w ≡ a
      pub to< : walk_to T w < 256

    pub turn : (w : ℕ) (xs : List ℕ) {end : ℕ} → Near T a w xs → end ≡ begin_of T (a + 1) → w < end → Turn w
    turn w xs n e l =
        let m : w < begin_of T (a + 1) = omega arith in
        let b : w < T.walks = omega (arith, begin_most T (a + 1)) in
        record { stands = stands T h w b; below = b; from_here = from_is T h a w n.begun m; to< = to_small T h w b }

    pub near_next : (w : ℕ) (xs : List ℕ) {end : ℕ} → Near T a w xs → end ≡ begin_of T (a + 1) → w < end →
        Near T a (w + 1) (set xs (walk_to T w) (walk_seconds T w))
    near_next w xs n e l =
        let t = turn w xs n e l in
        let b = n.begun in
        let long : length xs ≡ 256 = n.long in
        let here : get_or (set xs (walk_to T w) (walk_seconds T w)) (walk_to T w) 0 ≡ walk_seconds T w =
        get_or-set_same xs (walk_to T w) (walk_seconds T w) 0 (omega (arith, t.to<)) in
        record {
          begun = omega arith;
          long = length-set xs (walk_to T w) (walk_seconds T w) ∙ long;
          every = λ v m z. by_lt v w
              (λ k. get_or-set_other xs (walk_to T w) (walk_to T v) (walk_seconds T w) 0
              (λ q. omega (arith, key_over T h v w k t.below, t.from_here)) ∙ n.every v k z)
              (λ k. let q : v ≡ w = omega arith in rw q here);
          self = get_or-set_other xs (walk_to T w) a (walk_seconds T w) 0 (λ q. (h.walk w t.below).other (t.from_here ∙ q)) ∙ n.self;
          only = λ c b o m. by_test (eqb c (walk_to T w))
              (λ q. let z : c ≡ walk_to T w = eqb-true c (walk_to T w) q in
              record {
                walk = w;
                walk< = t.below;
                from = t.from_here;
                to = sym z;
                no_longer = rw z (omega (arith, here));
              })
              (λ q. let z : get_or (set xs (walk_to T w) (walk_seconds T w)) c 0 ≡ get_or xs c 0 =
              get_or-set_other xs (walk_to T w) c (walk_seconds T w) 0 (eqb-false c (walk_to T w) q) in
              rw z (n.only c b o (omega arith)));
        }

    pub near_end : (w : ℕ) (xs : List ℕ) {end : ℕ} → Near T a w xs → end ≡ begin_of T (a + 1) → end ≤ w → SecondsFrom T a xs
    near_end w xs n e l =
        record {
          long = n.long;
          every = λ v m z. by_lt v w (λ k. n.every v k z) (λ k. absurd (omega (arith, begin_past T h (a + 1) v (omega arith) m)));
          self = n.self;
          only = n.only;
        }
