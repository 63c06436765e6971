-- Walk records: what a good walk through them tells of the feed's bytes.
use mathlib.Core.Path.{◌≡◌, refl, sym, ap, ◌∙◌, subst}
use mathlib.Core.List.{List, [], ◌∷◌, ◌++◌}
use mathlib.Core.Bool.{true}
use Prim.Native.Nat.{ℕ, zero, suc, ◌+◌, ◌*◌, ◌≤◌, ◌<◌}
use native.Mathlib.Nat.{add-zero}
use native.Mathlib.Omega.{arith}
use lib.ListN.{length, get_or}
use Rattle.laws.specs.Below.{iterate}
use Rattle.laws.specs.Lists.{pieces}
use Rattle.laws.specs.Fields.{byte, two}
use Rattle.laws.proofs.Tests.{by_lt}
use Rattle.laws.proofs.Lists.{get_d-pieces}
use Rattle.laws.proofs.Fields.{Has, has_nil, has_cons, has_at, has_equal_pieces}
use Rattle.paper.specs.Timetable.{Tables, walk_from, walk_to, walk_seconds}
use Rattle.paper.specs.Feed.{walk_bytes, walks_bytes}
use Rattle.paper.specs.Reading.{marked, Walks, next_walk}
use Rattle.paper.proofs.Written.{length_walk}
use Rattle.paper.proofs.FeedRecords.{marked_says, walk_good, walk_before}
use Rattle.paper.proofs.FeedTrips.{has_two_then, has_marked}

pub walks_well : (f : List ℕ) (e : ℕ) (w : Walks) (j : ℕ) → (iterate j (next_walk f e) w).bad ≡ 0 → w.bad ≡ 0
unfolding iterate
walks_well f e w zero h = h
walks_well f e w (suc j) h = walks_well f e w j (walk_before f e (iterate j (next_walk f e) w) h).0

module _ (f : List ℕ) (e at : ℕ) where
  abbrev pub walk_of : ℕ → List ℕ
  walk_of i = byte f (at + 6 * i + 2) ∷ byte f (at + 6 * i + 3) ∷ two f (at + 6 * i + 4) ∷ []

  abbrev pub no_walks : Walks
  no_walks = record { bad = 0; at = at; t5 = [] }

  abbrev walks_till : ℕ → Walks
  walks_till j = record { bad = 0; at = at + 6 * j; t5 = pieces j walk_of }

  pub walks_closed : (j : ℕ) → (iterate j (next_walk f e) no_walks).bad ≡ 0 → iterate j (next_walk f e) no_walks ≡ walks_till j
  unfolding iterate pieces
  walks_closed zero h =
      let a : at ≡ at + 6 * 0 = omega arith in
      λ i. record { bad = 0; at = a i; t5 = [] }
  walks_closed (suc j) h =
      let v = walk_before f e (iterate j (next_walk f e) no_walks) h in
      let E = walks_closed j v.0 in
      let M : marked f e (at + 6 * j) 6 0x57 0x4B ≡ true = subst (λ (w : Walks). marked f e w.at 6 0x57 0x4B ≡ true) E v.1 in
      let a : at + 6 * j + 6 ≡ at + 6 * suc j = omega arith in
      ap (next_walk f e) E ∙ walk_good f e (walks_till j) refl M ∙ (λ i. record { bad = 0; at = a i; t5 = pieces j walk_of ++ walk_of j })

  walks_marked : (m : ℕ) → (iterate m (next_walk f e) no_walks).bad ≡ 0 → (j : ℕ) → j < m → marked f e (at + 6 * j) 6 0x57 0x4B ≡ true
  unfolding iterate
  walks_marked zero h j l = absurd (omega arith)
  walks_marked (suc m) h j l =
      let v = walk_before f e (iterate m (next_walk f e) no_walks) h in
      by_lt j m
      (λ k. walks_marked m v.0 j k)
      (λ k. let q : j ≡ m = omega arith in
      rw q (subst (λ (w : Walks). marked f e w.at 6 0x57 0x4B ≡ true) (walks_closed m v.0) v.1))

  module _ (B : (i : ℕ) → byte f i < 256) (room : e ≤ length f) (T : Tables) (m : ℕ) (h : (iterate m (next_walk f e) no_walks).bad ≡ 0) (t : T.t5 ≡ pieces m walk_of) where
    pub entry : (j c : ℕ) → j < m → c < 3 → get_or T.t5 (j * 3 + c) 0 ≡ get_or (walk_of j) c 0
    entry j c lj lc =
        let k : j * 3 + c ≡ 3 * j + c = omega arith in
        (λ i. get_or (t i) (k i) 0) ∙ get_d-pieces m walk_of 3 (λ i l. refl) j c 0 lj lc

    pub has_walks : Has f at (walks_bytes T m)
    unfolding walks_bytes walk_bytes
    has_walks =
        has_equal_pieces f at 6 m (walk_bytes T) (λ w l. length_walk T w)
        (λ j l.
        let M = walks_marked m h j l in
        let p : ℕ = at + 6 * j in
        let fits : p + 6 ≤ e = (marked_says f e _ 6 0x57 0x4B M).fits in
        let x : walk_from T j ≡ byte f (p + 2) = ap (λ (k : ℕ). get_or T.t5 k 0) (sym (add-zero (j * 3))) ∙ entry j 0 l (omega arith) in
        let y : walk_to T j ≡ byte f (p + 3) = entry j 1 l (omega arith) in
        let z : walk_seconds T j ≡ two f (p + 4) = entry j 2 l (omega arith) in
        has_marked f B e p 6 0x57 0x4B _ room (omega arith) M
        (has_cons f (p + 2) _ _ (omega arith) (sym x)
        (has_at f (p + 3) (p + 2 + 1) _ (omega arith)
        (has_cons f (p + 3) _ _ (omega arith) (sym y)
        (has_at f (p + 4) (p + 3 + 1) _ (omega arith)
        (has_two_then f B (p + 4) _ [] (omega arith) z (has_nil f _)))))))
