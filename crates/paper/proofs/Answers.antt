-- What the labels and legs tables hold, and which reply a question gets, place by place.
use mathlib.Core.Path.{◌≡◌, refl, ap, ◌∙◌}
use mathlib.Core.Bool.{Bool, true, false, cond, ◌&&◌}
use mathlib.Core.List.{List, [], ◌∷◌, ◌++◌}
use Rattle.std.specs.Prelude.{None}
use Prim.Native.Nat.{ℕ, suc, ◌+◌, ◌*◌, ◌≤◌, ◌<◌}
use native.Mathlib.Omega.{arith}
use lib.Dec.{leb}
use lib.ListN.{length, get_or, replicate, length-append, length-replicate}
use borrow.Author.Tests.{lt-ltb, le-ltb, le-leb, lt-leb}
use Rattle.laws.specs.Below.{mark, or_else, given, first_found}
use Rattle.laws.specs.Lists.{tab, pieces}
use Rattle.laws.proofs.Tests.{and_true, by_test, by_lt}
use Rattle.laws.proofs.Lists.{length-tab, get_d-tab, length-pieces, get_d-pieces, pieces_same}
use Rattle.paper.specs.Timetable.{Tables}
use Rattle.paper.specs.Rules.{refused_by, fault_of}
use Rattle.paper.specs.Rows.{label, row_of}
use Rattle.paper.specs.Tie.{is_entry, entries_below, entries_of, legs_of}
use Rattle.paper.specs.Reply.{short_table, lengths_of, question_broken, labels_table, leg_numbers, legs_row, legs_table, ask_of, searched}
use Rattle.paper.specs.Demands.{Ready}
use Rattle.paper.specs.declared.Question.{Question}
use Rattle.paper.specs.declared.Leg.{Leg}
use Rattle.paper.proofs.Listing.{entry_listed}

module _ (T : Tables) (q : Question) where
  labels_row : (k : ℕ) → length (tab 256 λ s. cond (leb k q.limit) (label (row_of T q k) s) mark) ≡ 256
  labels_row k = length-tab 256 (λ s. cond (leb k q.limit) (label (row_of T q k) s) mark)

  pub length_labels : length (labels_table T q) ≡ 2304
  unfolding labels_table
  length_labels = length-pieces 9 _ 256 (λ k _. labels_row k)

  -- row k's label of stop s stands at k * 256 + s
  pub labels_at : (k s : ℕ) → k ≤ q.limit → k < 9 → s < 256 → get_or (labels_table T q) (k * 256 + s) 0 ≡ label (row_of T q k) s
  unfolding labels_table
  labels_at k s l h m =
      let e : k * 256 + s ≡ 256 * k + s = omega arith in
      rw e
      (get_d-pieces 9 _ 256 (λ k _. labels_row k) k s 0 h m
      ∙ get_d-tab 256 _ s 0 m
      ∙ ap (λ (b : Bool). cond b (label (row_of T q k) s) mark) (le-leb k q.limit l))

  pub length_row : (k : ℕ) → length (legs_row T q k) ≡ 40
  unfolding legs_row
  length_row k = go (leb k q.limit && is_entry T q k)
    where
      go : (b : Bool) → length (cond b (tab 40 λ i. get_or (leg_numbers (legs_of T q k q.target)) i mark) (replicate 40 mark)) ≡ 40
      go true = length-tab 40 _
      go false = length-replicate 40 mark

  pub length_legs : length (legs_table T q) ≡ 320
  unfolding legs_table
  length_legs = length-pieces 8 _ 40 (λ k _. length_row (suc k))

  -- the i-th number of the legs of an entry of k + 1 rides stands at k * 40 + i
  pub legs_at_lem : (k i z : ℕ) → suc k ≤ q.limit → k < 8 → i < 40 → is_entry T q (suc k) ≡ true →
      get_or (legs_table T q) (k * 40 + i) z ≡ get_or (leg_numbers (legs_of T q (suc k) q.target)) i mark
  unfolding legs_table legs_row
  legs_at_lem k i z l h m e =
      let c : k * 40 + i ≡ 40 * k + i = omega arith in
      rw c
      (get_d-pieces 8 _ 40 (λ k _. length_row (suc k)) k i z h m
      ∙ ap (λ (b : Bool). get_or (cond b (tab 40 λ i. get_or (leg_numbers (legs_of T q (suc k) q.target)) i mark) (replicate 40 mark)) i z)
      (and_true (leb (suc k) q.limit) (is_entry T q (suc k)) (le-leb (suc k) q.limit l) e)
      ∙ get_d-tab 40 _ i z m)

-- where there is no entry the legs table is all mark
pub no_entry_legs : (T : Tables) (q : Question) → length (entries_of T q) ≡ 0 → legs_table T q ≡ replicate 320 mark
unfolding legs_table pieces
no_entry_legs T q e = pieces_same 8 (λ k. legs_row T q (suc k)) (λ k. replicate 40 mark) (λ k _. no_row (suc k))
  where
    no_row : (k : ℕ) → legs_row T q k ≡ replicate 40 mark
    no_row k =
        by_test (is_entry T q k)
        (λ t. by_lt q.limit k
        (λ l. unfold legs_row in (rw (lt-leb k q.limit l)))
        (λ l. let x = entry_listed T q (suc q.limit) k (omega arith) t in
        let h : x.place < length (entries_below T q (suc q.limit)) = x.place< in
        let z : length (entries_below T q (suc q.limit)) ≡ 0 = unfold entries_of in e in
        absurd (omega arith)))
        (λ t. unfold legs_row in (go (leb k q.limit) (is_entry T q k) t))
      where
        go : (a b : Bool) → b ≡ false → cond (a && b) (tab 40 λ i. get_or (leg_numbers (legs_of T q k q.target)) i mark) (replicate 40 mark) ≡ replicate 40 mark
        go true b f = rw f
        go false b f = refl

pub length_numbers : (gs : List Leg) → length (leg_numbers gs) ≡ 5 * length gs
unfolding leg_numbers
length_numbers [] = refl
length_numbers (g ∷ gs) = rw (length-append, length_numbers gs) (omega arith)

-- the question is good
pub question_good : (T : Tables) (q : Question) → q.start < T.stops → q.target < T.stops → q.time < 172800 → q.limit ≤ 8 → question_broken T q ≡ false
unfolding question_broken
question_good T q a b c d = rw (lt-ltb q.start T.stops a, lt-ltb q.target T.stops b, lt-ltb q.time 172800 c, le-ltb 8 q.limit d)

-- tables of their full sizes are not too short
pub long_enough : (T : Tables) (labels legs : List ℕ) (q : Question) → Ready T labels legs q →
    short_table (lengths_of T ++ (length labels ∷ length legs ∷ [])) ≡ None
unfolding short_table first_found or_else given refused_by
long_enough T labels legs q r =
    rw (
      le-ltb (length T.t1) 256 r.t1≥,
      le-ltb (length T.t2) 2048 r.t2≥,
      le-ltb (length T.t3) 2048 r.t3≥,
      le-ltb (length T.t4) 2048 r.t4≥,
      le-ltb (length T.t5) 1536 r.t5≥,
      le-ltb (length labels) 2304 r.labels≥,
      le-ltb (length legs) 320 r.legs≥,
    )

-- a question with no reason from 6, 5 and 7 to 12 is searched
pub ready_asked : (T : Tables) (labels legs : List ℕ) (q : Question) → Ready T labels legs q → fault_of T ≡ None →
    ask_of T (length labels) (length legs) q ≡ searched T q
unfolding ask_of or_else given
ready_asked T labels legs q r f = rw (long_enough T labels legs q r, f, question_good T q r.start< r.target< r.time< r.limit≤)
