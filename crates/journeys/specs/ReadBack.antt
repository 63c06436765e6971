-- Reading an entry's legs and all entries back from the labels: what its parts ask and answer.
use Rattle.std.specs.Prelude.{◌≡◌, false, List, [], ◌∷◌, ◌++◌, ℕ, zero, suc, ◌+◌, ◌*◌, ◌≤◌, ◌<◌, length, get_or, set, Option, Some, None}
use Rattle.laws.specs.Lists.{over}
use Rattle.paper.specs.Rules.{Fit}
use Rattle.paper.specs.Timetable.{Tables, n_of}
use Rattle.paper.specs.Rows.{row_in, ride_to}
use Rattle.paper.specs.Tie.{first_step, board_stop, entries_of}
use Rattle.paper.specs.Reply.{question_broken, in_nine, labels_table, legs_table}
use Rattle.paper.specs.declared.Leg.{Leg}
use Rattle.paper.specs.declared.Entry.{Entry}
use Rattle.paper.specs.declared.Question.{Question}
use Rattle.extents.specs.Extent.{extent_of}
use Rattle.journeys.specs.declared.Listed.{Listed}
use Rattle.steps.specs.Search.{stop_in}

-- the first last step to p at row k + 1's time that boards where row k permits it
abbrev pub step_in : Tables → List ℕ → ℕ → ℕ → Option Leg
step_in T labels k p = first_step T (row_in labels k T.stops) p (get_or labels (k * 256 + 256 + p) 0)

-- no ride that row k permits comes to a stop before row k + 1's label of it
abbrev pub RidesAfter : Tables → List ℕ → ℕ → Type 0
RidesAfter T labels k = (s : ℕ) → s < T.stops → get_or labels (k * 256 + 256 + s) 0 ≤ ride_to T (row_in labels k T.stops) s

-- there is a row after row k, and p is a stop
pub record Stepping (T : Tables) (labels : List ℕ) (k p : ℕ) : Type 0 where
  pub fit : Fit T
  pub room : 2304 ≤ length labels
  pub few : k < 8
  pub stop : p < T.stops
  pub rides : RidesAfter T labels k

-- leg j of k rides, at most eight
pub record Numbered (k j : ℕ) : Type 0 where
  pub few : k ≤ 8
  pub leg : j < k

-- a leg's boarding position stands in table 2, and the stop there
pub record Placed (t1 t2 : List ℕ) (g : Leg) : Type 0 where
  pub head : g.route * 4 + 3 < length t1
  pub position : get_or t1 (g.route * 4 + 2) 0 + g.board < length t2

abbrev pub placed_stop : List ℕ → List ℕ → Leg → ℕ
placed_stop t1 t2 g = stop_in t2 (extent_of t1 g.route) g.board

-- "Repeat from the boarding stop with k-1": the legs of k rides that end at p, in travel order, by the rows of the labels
unfoldable pub legs_in : Tables → List ℕ → ℕ → ℕ → List Leg
legs_in T labels zero p = []
legs_in T labels (suc k) p =
    elim (step_in T labels k p) [
      | None ↦ []
      | Some g ↦ legs_in T labels k (board_stop T g) ++ (g ∷ [])
    ]

-- there are such legs: each step is found, on a route and at a position that is there
pub data Leads (T : Tables) (labels : List ℕ) : ℕ → ℕ → Type 0 where
  here : {p : ℕ} → Leads T labels 0 p
  back : {k p : ℕ} (g : Leg) → p < T.stops → step_in T labels k p ≡ Some g → g.route < T.routes → g.board < n_of T g.route → Leads T labels k (board_stop T g) → Leads T labels (suc k) p

pub record Traceable (T : Tables) (labels : List ℕ) (room k p : ℕ) : Type 0 where
  pub fit : Fit T
  pub labels_room : 2304 ≤ length labels
  pub legs_room : 320 ≤ room
  pub few : k ≤ 8
  pub rides : (j : ℕ) → j < k → RidesAfter T labels j
  pub leads : Leads T labels k p

-- what is listed, and one entry after it
abbrev pub listed_also : Listed → ℕ → ℕ → Listed
listed_also x k arrival = record { count = x.count + 1; entries = set x.entries x.count (record { rides = k; arrival = arrival }) }

-- a good question about a sound timetable, with its labels and room for the legs
pub record Readable (T : Tables) (q : Question) (labels : List ℕ) (room : ℕ) : Type 0 where
  pub fit : Fit T
  pub good : question_broken T q ≡ false
  pub rest : List ℕ
  pub labels_are : labels ≡ over (labels_table T q) rest
  pub legs_room : 320 ≤ room

-- the entries of 01, and the legs table with what stood past it
pub record ReadBack (T : Tables) (q : Question) (legs₀ legs : List ℕ) (count : ℕ) (entries : List Entry) : Type 0 where
  pub count_is : count ≡ length (entries_of T q)
  pub entries_are : entries ≡ in_nine (entries_of T q)
  pub legs_are : legs ≡ over (legs_table T q) legs₀
