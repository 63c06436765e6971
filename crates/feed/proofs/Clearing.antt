-- The two clearings: what they leave of the tables, with the records read and judged between them.
use mathlib.Core.Path.{◌≡◌, refl, ap, ◌∙◌}
use mathlib.Core.Bool.{true, false}
use mathlib.Core.List.{List, ◌++◌}
use Prim.Native.Nat.{ℕ, zero, suc}
use native.Mathlib.Omega.{arith}
use lib.ListN.{drop, replicate, length-replicate}
use lib.Seq.{drop_at}
use borrow.Author.Tests.{ne_eqb}
use Rattle.std.specs.Result.{is_err}
use Rattle.std.specs.Prelude.{Option, Some, None, Result, Ok, Err}
use Rattle.laws.specs.Lists.{over}
use Rattle.laws.proofs.Lists.{drop-over}
use Rattle.paper.specs.Rules.{first_broken, whole_rules}
use Rattle.paper.specs.Reading.{Zeroed, Accepted, whole_of, tables_in, judged, body_of, cleared}
use Rattle.paper.specs.Reply.{reading_of}
use Rattle.paper.specs.declared.Heads.{Heads}
use Rattle.paper.specs.declared.Refusal.{Refusal}
use Rattle.paper.specs.declared.Room.{Room}
use Rattle.records.specs.State.{Fills}
use Rattle.feed.specs.State.{lists, Cleared, Judged, Leaves}

-- a table that is cleared, filled and cleared again
twice : (k : ℕ) (d₀ : List ℕ) {xs d₁ d₂ d₃ : List ℕ} → d₁ ≡ cleared k d₀ → Fills k xs d₁ d₂ → d₃ ≡ cleared k d₂ → d₃ ≡ cleared k d₀
twice k d₀ {xs} {d₁} e f g =
    let q : drop k (cleared k d₀) ≡ drop k d₀ = drop_at (replicate k 0) (drop k d₀) k (length-replicate k 0) in
    g ∙ ap (λ (r : List ℕ). replicate k 0 ++ r) (ap (drop k) f.is ∙ drop-over xs d₁ k f.fits ∙ ap (drop k) e ∙ q)

-- the outcome is one of two
data Body (f : List ℕ) : Type 0 where
  bad : (n q : ℕ) → body_of f ≡ Zeroed n q → Body f
  good : body_of f ≡ Accepted (tables_in f) → Body f

body : (f : List ℕ) → Body f
unfolding body_of judged
body f = go (whole_of f).bad refl (first_broken whole_rules (tables_in f)) refl
  where
    go : (b : ℕ) → (whole_of f).bad ≡ b → (o : Option Refusal) → first_broken whole_rules (tables_in f) ≡ o → Body f
    go zero e None q = good (simp (e, q))
    go zero e (Some x) q = bad x.number x.place (simp (e, q))
    go (suc b) e o q = bad (whole_of f).bad (whole_of f).at (simp (ne_eqb (whole_of f).bad 0 (λ z. omega arith)))

module _ {old mid : Room} (c : Cleared old mid) where
  module _ {f : List ℕ} {new : Room} where
    leaves_bad : {x : Refusal} → Judged f (Err x) mid new → {last : Room} → Cleared new last → Leaves (body_of f) (Err x) (lists old) (lists last)
    leaves_bad {x} j {last} z = go (body f)
      where
        zeroed : (m s : ℕ) → ◌≡◌ {A = Result Heads Refusal} (Err x) (reading_of (Zeroed m s)) → Leaves (Zeroed m s) (Err x) (lists old) (lists last)
        zeroed m s k =
            record {
              answer = k;
              routes = twice 256 old.routes.now c.routes j.filled.routes z.routes;
              positions = twice 2048 old.positions.now c.positions j.filled.positions z.positions;
              arrivals = twice 2048 old.arrivals.now c.arrivals j.filled.arrivals z.arrivals;
              departures = twice 2048 old.departures.now c.departures j.filled.departures z.departures;
              walks = twice 1536 old.walks.now c.walks j.filled.walks z.walks;
            }

        go : Body f → Leaves (body_of f) (Err x) (lists old) (lists last)
        go (bad m s b) = rw b (zeroed m s (j.answer ∙ ap reading_of b))
        go (good b) =
            let k : ◌≡◌ {A = Result Heads Refusal} (Err x) (reading_of (Accepted (tables_in f))) = j.answer ∙ ap reading_of b in
            cc

    leaves_good : {h : Heads} → Judged f (Ok h) mid new → Leaves (body_of f) (Ok h) (lists old) (lists new)
    unfolding tables_in
    leaves_good {h} j = go (body f)
      where
        accepted : Ok h ≡ reading_of (Accepted (tables_in f)) → Leaves (Accepted (tables_in f)) (Ok h) (lists old) (lists new)
        accepted k =
            record {
              answer = k;
              routes = j.filled.routes.is ∙ ap (over (whole_of f).t1) c.routes;
              positions = j.filled.positions.is ∙ ap (over (whole_of f).t2) c.positions;
              arrivals = j.filled.arrivals.is ∙ ap (over (whole_of f).t3) c.arrivals;
              departures = j.filled.departures.is ∙ ap (over (whole_of f).t4) c.departures;
              walks = j.filled.walks.is ∙ ap (over (whole_of f).t5) c.walks;
            }

        go : Body f → Leaves (body_of f) (Ok h) (lists old) (lists new)
        go (good b) = rw b (accepted (j.answer ∙ ap reading_of b))
        go (bad m s b) =
            let k : ◌≡◌ {A = Result Heads Refusal} (Ok h) (reading_of (Zeroed m s)) = j.answer ∙ ap reading_of b in
            cc

    -- where the answer is a refusal, and the tables are cleared again; or else
    pub leaves_cleared : (r : Result Heads Refusal) → is_err r ≡ true → Judged f r mid new → {last : Room} → Cleared new last
        → Leaves (body_of f) r (lists old) (lists last)
    leaves_cleared (Ok h) t j z = cc
    leaves_cleared (Err x) t j z = leaves_bad j z

    pub leaves_filled : (r : Result Heads Refusal) → is_err r ≡ false → Judged f r mid new → Leaves (body_of f) r (lists old) (lists new)
    leaves_filled (Ok h) t j = leaves_good j
    leaves_filled (Err x) t j = cc
