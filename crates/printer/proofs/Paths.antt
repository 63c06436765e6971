-- The ways through the program, each with the lines that it ends in.
use mathlib.Core.Path.{◌≡◌, sym, ap, ◌∙◌}
use mathlib.Core.List.{List, ◌++◌, append-nil}
use Prim.Native.Nat.{ℕ}
use native.Mathlib.Omega.{arith}
use lib.ListN.{replicate, length-replicate, drop_of_length-le}
use Rattle.std.specs.Prelude.{Option, Result, Ok, Err}
use Rattle.laws.specs.Lists.{over}
use Rattle.paper.specs.Timetable.{Tables, tables}
use Rattle.paper.specs.Reading.{Outcome, Untouched, Zeroed, Accepted, read_of, cleared}
use Rattle.paper.specs.Reply.{read_into, reading_of}
use Rattle.paper.specs.Lines.{refused_line, question_lines, outcome_lines, question_of, printed}
use Rattle.paper.specs.declared.Heads.{Heads}
use Rattle.paper.specs.declared.Question.{Question}
use Rattle.paper.specs.declared.Refusal.{Refusal}
use Rattle.paper.proofs.Printing.{read_full}
use Rattle.paper.proofs.Refusals.{refused_same}
use Rattle.feed.specs.State.{Lists, lengths, Leaves}
use Rattle.dialogue.specs.Says.{Says}

-- ---- a feed that is read into tables of their full size, all zero

cleared_zero : (k : ℕ) → cleared k (replicate k 0) ≡ replicate k 0
cleared_zero k =
    let none = drop_of_length-le (replicate k 0) {i = k} (omega (arith, length-replicate {A = ℕ} k 0)) in
    ap (λ (r : List ℕ). replicate k 0 ++ r) none ∙ append-nil (replicate k 0)

abbrev zeros : ℕ → List ℕ
zeros k = replicate k 0

abbrev pub all_zero : Lists
all_zero =
    record {
      routes = zeros 256;
      positions = zeros 2048;
      arrivals = zeros 2048;
      departures = zeros 2048;
      walks = zeros 1536;
    }

-- the timetable that stands in tables, beside head counts
abbrev pub held : Heads → Lists → Tables
held k t = tables k t.routes t.positions t.arrivals t.departures t.walks

read_zeros : (f : List ℕ) → read_into (lengths all_zero) f ≡ read_of f
read_zeros f = simp length-replicate (read_full f)

held_table : (k : ℕ) (xs : List ℕ) {h : List ℕ} → h ≡ over xs (cleared k (zeros k)) → h ≡ over xs (zeros k)
held_table k xs e = e ∙ ap (λ (r : List ℕ). over xs r) (cleared_zero k)

-- the tables hold the timetable that was accepted
held_outcome : (o : Outcome) (x : Option Question) {k : Heads} {t : Lists} → Leaves o (Ok k) all_zero t →
    question_lines (held k t) x ≡ outcome_lines o x
unfolding outcome_lines
held_outcome (Untouched n i) x l = let e = l.answer in let z : ◌≡◌ {A = ℕ} 0 1 = cc in absurd (omega arith)
held_outcome (Zeroed n i) x l = let e = l.answer in let z : ◌≡◌ {A = ℕ} 0 1 = cc in absurd (omega arith)
held_outcome (Accepted T) x {k} {t} l =
    let e = l.answer in
    let k= : k ≡ record { stops = T.stops; routes = T.routes; walks = T.walks } = cc in
    let h= = held_table 256 T.t1 l.routes in
    let p= = held_table 2048 T.t2 l.positions in
    let a= = held_table 2048 T.t3 l.arrivals in
    let d= = held_table 2048 T.t4 l.departures in
    let g= = held_table 1536 T.t5 l.walks in
    λ i. question_lines (tables (k= i) (h= i) (p= i) (a= i) (d= i) (g= i)) x

-- the refusal's number and place
refused_outcome : (o : Outcome) (x : Option Question) {y : Refusal} → Err y ≡ reading_of o →
    outcome_lines o x ≡ refused_line y.number y.place
unfolding outcome_lines
refused_outcome (Untouched m j) x e = rw (refused_same e)
refused_outcome (Zeroed m j) x e = rw (refused_same e)
refused_outcome (Accepted T) x e = let z : ◌≡◌ {A = ℕ} 0 1 = cc in absurd (omega arith)

-- ---- all that is printed for a feed and an input

module _ (f input : List ℕ) {t : Lists} {r : Result Heads Refusal}
    (l : Leaves (read_into (lengths all_zero) f) r all_zero t) where
  read_leaves : Leaves (read_of f) r all_zero t
  read_leaves = rw (read_zeros f) at l

  pub refused_says : {y : Refusal} {b e : List ℕ} {k : ℕ} → r ≡ Err y → Says (refused_line y.number y.place) b e k →
      Says (printed f input) b e k
  unfolding printed
  refused_says o s = rw (refused_outcome (read_of f) (question_of input) (sym o ∙ read_leaves.answer)) s

  pub accepted_says : {k : Heads} {T : Tables} {b e : List ℕ} {n : ℕ} → r ≡ Ok k →
      Says (question_lines T (question_of input)) b e n → T ≡ held k t → Says (printed f input) b e n
  unfolding printed
  accepted_says o s h = rw (← held_outcome (read_of f) (question_of input) (rw o at read_leaves), ← h) s
