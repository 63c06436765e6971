-- One walk record, and walk after walk: the cases of `next_walk`, and what the code leaves in each.
use mathlib.Core.Path.{◌≡◌, refl, sym, ◌∙◌, subst}
use mathlib.Core.Bool.{Bool, true, false}
use mathlib.Core.List.{List, [], ◌∷◌, ◌++◌}
use Prim.Native.Nat.{ℕ, ◌+◌, ◌*◌, ◌≤◌, ◌<◌}
use native.Mathlib.Omega.{arith}
use lib.ListN.{take, length-append}
use lib.Seq.{length-take-le}
use borrow.Author.Tests.{ne_eqb}
use Rattle.std.specs.Prelude.{Result, Ok, Err}
use Rattle.laws.specs.Below.{iterate}
use Rattle.laws.specs.Lists.{over}
use Rattle.laws.specs.Fields.{byte, two}
use Rattle.laws.proofs.Below.{iterate_next}
use Rattle.paper.specs.Rules.{refusal}
use Rattle.paper.specs.Reading.{Walks, next_walk, marked}
use Rattle.paper.specs.declared.Refusal.{Refusal}
use Rattle.paper.proofs.FeedRecords.{walk_good}
use Rattle.standing.proofs.Marks.{stands_by}
use Rattle.route_records.specs.Keep.{CanPut}
use Rattle.route_records.proofs.Held.{holds_front, holds_push, holds_most, holds_take, holds_chain, iterate_stays}
use Rattle.records.specs.State.{walks_of, WalkRoom, WalksOn}
use Rattle.records.specs.declared.walks.WalksRead.{WalksRead}

module _ {f d : List ℕ} {e : ℕ} {s : WalksRead} (pre : WalkRoom e 3 s f d) {b : Bool} (stands : b ≡ marked f e s.at 6 87 75) where
  -- no walk stands here
  pub walk_bad : b ≡ false → {x : Refusal} → x ≡ refusal 3 s.at → WalksOn e 3 s (next_walk f e (walks_of s d)) (Err x) d d
  unfolding next_walk
  walk_bad h i =
      simp (sym stands ∙ h)
      (record {
        within = pre.within;
        walks = holds_front (omega arith) (omega (arith, pre.long5));
        end = record { met = λ z. omega arith; is = i };
      })

  module _ (right : b ≡ true) where
    fits : s.at + 6 ≤ e
    fits = stands_by f e s.at 6 87 75 stands right

    pub can_walk : CanPut f (s.at + 2) 4 d s.used 3
    can_walk = record { small = omega (arith, pre, fits); there = omega (arith, pre, fits); room = pre.long5 }

    pub walk_done : {d' : List ℕ}
        → d' ≡ over (take s.used d ++ (byte f (s.at + 2) ∷ byte f (s.at + 2 + 1) ∷ two f (s.at + 2 + 2) ∷ [])) d
        → WalksOn e 3 s (next_walk f e (walks_of s d)) (Ok (record { at = s.at + 6; used = s.used + 3 })) d d'
    walk_done g =
        let x : s.at + 2 + 1 ≡ s.at + 3 = omega arith in
        let y : s.at + 2 + 2 ≡ s.at + 4 = omega arith in
        let walk = byte f (s.at + 2) ∷ byte f (s.at + 3) ∷ two f (s.at + 4) ∷ [] in
        rw (walk_good f e (walks_of s d) refl (sym stands ∙ right))
        (record {
          within = fits;
          walks = holds_push walk (omega (arith, pre.long5)) (omega arith) (rw (x, y) at g);
          end = record {
            bad = refl;
            at = refl;
            walks = omega (arith, length-append (take s.used d) walk, length-take-le s.used d (omega (arith, pre.long5)));
          };
        })

-- ---- one walk after another

module _ (k : ℕ) {f d₀ : List ℕ} {e : ℕ} {s : WalksRead} (pre : WalkRoom e (3 * k) s f d₀) where
  abbrev to : ℕ → Walks
  to j = iterate j (next_walk f e) (walks_of s d₀)

  pub walking_start : WalksOn e (3 * 0) s (to 0) (Ok s) d₀ d₀
  unfolding iterate
  walking_start =
      record {
        within = pre.within;
        walks = holds_front (omega arith) (omega (arith, pre.long5));
        end = record { bad = refl; at = refl; walks = sym (length-take-le s.used d₀ (omega (arith, pre.long5))) };
      }

  module _ {j : ℕ} {q : WalksRead} {d : List ℕ} (h : WalksOn e (3 * j) s (to j) (Ok q) d₀ d) (l : j < k) where
    same : walks_of q d ≡ to j
    same = λ i. record { bad = sym h.end.bad i; at = h.end.at i; t5 = holds_take h.walks q.used h.end.walks i }

    -- there is room for the next
    pub walking_room : WalkRoom e 3 q f d
    walking_room =
        record {
          within = omega (arith, h.within, h.end.at);
          feed = pre.feed;
          small = pre.small;
          long5 = omega (arith, pre.long5, h.walks.most, h.walks.kept, h.end.walks);
        }

    pub walking_step : {r : Result WalksRead Refusal} {d' : List ℕ} → WalksOn e 3 q (next_walk f e (walks_of q d)) r d d'
        → WalksOn e (3 * (j + 1)) s (to (j + 1)) r d₀ d'
    walking_step {r} {d'} g =
        let x = subst (λ (y : Walks). WalksOn e 3 q (next_walk f e y) r d d') same g in
        rw (iterate_next j (next_walk f e) (walks_of s d₀))
        (record {
          within = x.within;
          walks = holds_most (omega (arith, h.end.walks, h.walks.most)) (holds_chain h.walks x.walks h.end.walks);
          end = x.end;
        })

    -- a bad record ends it
    pub walking_bad : {x : Refusal} {d' : List ℕ} → WalksOn e 3 q (next_walk f e (walks_of q d)) (Err x) d d' → WalksOn e (3 * k) s (to k) (Err x) d₀ d'
    unfolding next_walk
    walking_bad g =
        let y = walking_step g in
        let t = iterate_stays (next_walk f e) (walks_of s d₀) (j + 1) (simp (ne_eqb (to (j + 1)).bad 0 y.end.met)) k (omega arith) in
        rw t (record { within = y.within; walks = holds_most (omega arith) y.walks; end = y.end })
