-- The search for the first last step: what its parts ask and answer.
use Rattle.std.specs.Prelude.{◌≡◌, ◌≢◌, Bool, true, false, not, cond, ◌&&◌, List, ℕ, zero, suc, ◌+◌, ◌-◌, ◌*◌, ◌≤◌, ◌<◌, eqb, leb, ltb, length, get_or, Option, Some, None}
use Rattle.laws.specs.Below.{mark, first_below}
use Rattle.laws.specs.Lists.{tab}
use Rattle.paper.specs.Timetable.{Tables}
use Rattle.paper.specs.Rules.{Fit}
use Rattle.paper.specs.Rows.{label, ride_to}
use Rattle.extents.specs.declared.Extent.{Extent}
use Rattle.steps.specs.declared.Way.{Way}

-- ---- the ways in to a stop

-- does walk w of table 5 go from stop s to stop p?
abbrev pub joins : List ℕ → ℕ → ℕ → ℕ → Bool
joins t5 s p w = eqb (get_or t5 (w * 3) 0) s && eqb (get_or t5 (w * 3 + 1) 0) p

-- the seconds from s to p by the first walk below k between them, 0 if there is none
unfoldable pub seconds_below : List ℕ → ℕ → ℕ → ℕ → ℕ
seconds_below t5 p k s = cond (ltb (first_below k (joins t5 s p)) k) (get_or t5 (first_below k (joins t5 s p) * 3 + 2) 0) 0

unfoldable pub seconds_to : List ℕ → ℕ → ℕ → List ℕ
seconds_to t5 count p = tab 256 (seconds_below t5 p count)

-- the walks stand in table 5, start at stops, and no two are between the same stops
pub record WalksIn (t5 : List ℕ) (count : ℕ) : Type 0 where
  pub room : count * 3 ≤ length t5
  pub few : count ≤ 512
  pub from< : (w : ℕ) → w < count → get_or t5 (w * 3) 0 < 256
  pub once : (w z : ℕ) → w < count → z < count → get_or t5 (w * 3) 0 ≡ get_or t5 (z * 3) 0 → get_or t5 (w * 3 + 1) 0 ≡ get_or t5 (z * 3 + 1) 0 → w ≡ z

-- from stop s, by a walk of so many seconds: 0 is no walk, and it is too late where the next row's label of s and the seconds are after v
abbrev pub on_foot : List ℕ → ℕ → ℕ → ℕ → ℕ → Option Way
on_foot next p v s seconds =
    cond (eqb seconds 0) None (cond (ltb v (get_or next s 0 + seconds)) None (Some (record { stop = s; seconds = seconds; after = Some p })))

-- the ways in to p at v, in the tie rule's order: 0 stays at p, s + 1 walks to p from s
unfoldable pub way_of : List ℕ → List ℕ → ℕ → ℕ → ℕ → Option Way
way_of seconds next p v zero = Some (record { stop = p; seconds = 0; after = None })
way_of seconds next p v (suc s) = on_foot next p v s (get_or seconds s 0)

-- the stop walked from is one of 256 and has a label
pub record WayIn (next : List ℕ) (way : ℕ) : Type 0 where
  pub few : way ≤ 256
  pub labelled : way ≤ length next

-- ---- a route

-- the stop at its position i, and trip j's time there in table 3 or 4
abbrev pub stop_in : List ℕ → Extent → ℕ → ℕ
stop_in t2 x i = get_or t2 (x.first + i) 0

abbrev pub time_in : List ℕ → Extent → ℕ → ℕ → ℕ
time_in t x j i = get_or t (x.event + (j * x.n + i)) 0

-- of a route's stops none is s; the first that is, stands at index i; the last does
abbrev pub NeverAt : List ℕ → ℕ → Type 0
NeverAt stops s = (k : ℕ) → k < length stops → get_or stops k 0 ≢ s

pub record FirstAt (stops : List ℕ) (s i : ℕ) : Type 0 where
  pub inside : i < length stops
  pub at : get_or stops i 0 ≡ s
  pub before : (k : ℕ) → k < i → get_or stops k 0 ≢ s

pub record LastAt (stops : List ℕ) (s i : ℕ) : Type 0 where
  pub inside : i < length stops
  pub at : get_or stops i 0 ≡ s
  pub after : (k : ℕ) → i < k → k < length stops → get_or stops k 0 ≢ s

-- is its position i at stop s?
abbrev pub visit_at : List ℕ → Extent → ℕ → ℕ → Bool
visit_at t2 x s i = eqb (stop_in t2 x i) s

-- none of its positions is at stop s
abbrev pub Unvisited : List ℕ → Extent → ℕ → Type 0
Unvisited t2 x s = (i : ℕ) → i < x.n → visit_at t2 x s i ≡ false

-- `first` is and none before it, and the last before `past` is and none from there on
pub record Between (t2 : List ℕ) (x : Extent) (s first past : ℕ) : Type 0 where
  pub first< : first < x.n
  pub past≤ : past ≤ x.n
  pub at_first : visit_at t2 x s first ≡ true
  pub at_last : visit_at t2 x s (past - 1) ≡ true
  pub before : (i : ℕ) → i < first → visit_at t2 x s i ≡ false
  pub after : (i : ℕ) → past ≤ i → i < x.n → visit_at t2 x s i ≡ false

pub record Ending (t2 t3 : List ℕ) (x : Extent) (j l : ℕ) : Type 0 where
  pub position : x.first + l < length t2
  pub event : x.event + (j * x.n + l) < length t3

unfoldable pub ends_in : List ℕ → List ℕ → Extent → ℕ → ℕ → ℕ → ℕ → ℕ → Bool
ends_in t2 t3 x j l s seconds v = eqb (stop_in t2 x l) s && eqb (time_in t3 x j l + seconds) v

pub record Boarding (t2 t4 row : List ℕ) (x : Extent) (j i : ℕ) : Type 0 where
  pub position : x.first + i < length t2
  pub event : x.event + (j * x.n + i) < length t4
  pub stop : stop_in t2 x i < length row

unfoldable pub boards_in : List ℕ → List ℕ → List ℕ → Extent → ℕ → ℕ → Bool
boards_in t2 t4 row x j i = not (eqb (label row (stop_in t2 x i)) mark) && leb (label row (stop_in t2 x i)) (time_in t4 x j i)

-- ---- the whole

-- a row with a label for each stop, and the next, whose label of a stop is not after a ride that the row permits
pub record Searched (T : Tables) (row next : List ℕ) : Type 0 where
  pub fit : Fit T
  pub labelled : T.stops ≤ length row
  pub next_labelled : T.stops ≤ length next
  pub next_first : (s : ℕ) → s < T.stops → get_or next s 0 ≤ ride_to T row s
