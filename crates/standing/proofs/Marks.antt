-- A record's mark, as the field reader looks for it.
use mathlib.Core.Path.{◌≡◌, sym, ◌∙◌}
use mathlib.Core.Bool.{Bool, true}
use mathlib.Core.List.{List}
use Prim.Native.Nat.{ℕ, ◌+◌, ◌*◌, ◌/◌, ◌%◌, ◌≤◌, ◌<◌}
use native.Mathlib.Omega.{arith}
use lib.ListN.{length}
use borrow.Author.Tests.{le-leb}
use Rattle.paper.specs.Reading.{marked}
use Rattle.paper.proofs.FeedRecords.{marked_says}

-- a record that ends by e, within the feed, stands where it begins with its mark
pub begins_stands : (f : List ℕ) (e at k p q : ℕ) → e ≤ length f → 2 ≤ k → at + k ≤ e → p < 256 → q < 256
    → {r : Bool} → r ≡ marked f (length f) at 2 ((p * 256 + q) / 256) ((p * 256 + q) % 256) → r ≡ marked f e at k p q
unfolding marked
begins_stands f e at k p q w m l a b h =
    let x : (p * 256 + q) / 256 ≡ p = omega arith in
    let y : (p * 256 + q) % 256 ≡ q = omega arith in
    h ∙ simp (le-leb (at + k) e l, le-leb (at + 2) (length f) (omega arith), x, y)

-- a record whose mark stands ends by e
pub stands_by : {r : Bool} (f : List ℕ) (e at k p q : ℕ) → r ≡ marked f e at k p q → r ≡ true → at + k ≤ e
stands_by f e at k p q h t = (marked_says f e at k p q (sym h ∙ t)).fits
