-- One round: row k + 1 made of row k in the lent labels.
use Rattle.std.specs.Prelude.{◌≡◌, Bool, List, ℕ, ◌+◌, ◌*◌, ◌-◌, ◌%◌, ◌≤◌, ◌<◌, min, ltb, length, get_or}
use Rattle.laws.specs.Below.{any_below}
use Rattle.laws.specs.Lists.{written}
use Rattle.paper.specs.Timetable.{Tables}
use Rattle.paper.specs.Rules.{Fit}
use Rattle.paper.specs.Rows.{label, row_in, next_row}
use Rattle.paper.specs.Work.{round_cost, improves}

-- there is a row after row k
pub record Follows (labels k stops reach next : ℕ) : Type 0 where
  pub room : 2304 ≤ labels
  pub few : k < 8
  pub stops≤ : stops ≤ 256
  pub reach_room : stops ≤ reach
  pub next_room : stops ≤ next

-- what this round brings to stop s, by a ride or by a ride and a walk; and the label that s has then
abbrev pub brought : List ℕ → List ℕ → ℕ → ℕ
brought reach next s = min (get_or reach s 0) (get_or next s 0)

abbrev pub bettered : List ℕ → ℕ → List ℕ → List ℕ → ℕ → ℕ
bettered labels k reach next s = min (get_or labels (k * 256 + s) 0) (brought reach next s)

pub record RowWritten (labels₀ labels : List ℕ) (k stops : ℕ) (reach next : List ℕ) (improved : Bool) : Type 0 where
  pub labels_are : labels ≡ written labels₀ (k * 256 + 256) (bettered labels₀ k reach next) stops
  pub improved_is : improved ≡ any_below stops λ s. ltb (brought reach next s) (get_or labels₀ (k * 256 + s) 0)

pub record RoundAsked (T : Tables) (labels : List ℕ) (k : ℕ) : Type 0 where
  pub fit : Fit T
  pub room : 2304 ≤ length labels
  pub few : k < 8

-- row k + 1 is the next row of row k; the work and the improvement are 01's
pub record RoundDone (T : Tables) (labels₀ labels : List ℕ) (k work : ℕ) (improved : Bool) : Type 0 where
  pub labels_are : labels ≡ written labels₀ (k * 256 + 256) (label (next_row T (row_in labels₀ k T.stops))) T.stops
  pub work_is : work ≡ round_cost T (row_in labels₀ k T.stops)
  pub improved_is : improved ≡ improves T (row_in labels₀ k T.stops)

-- row k and the rows up to the limit are there
pub record Settling (labels k limit : ℕ) : Type 0 where
  pub room : 2304 ≤ labels
  pub below : k ≤ limit
  pub few : limit ≤ 8

-- the rows after row k, up to the limit, equal it
unfoldable pub settled : List ℕ → ℕ → ℕ → List ℕ
settled labels k limit = written labels (k * 256 + 256) (λ i. get_or labels (k * 256 + i % 256) 0) ((limit - k) * 256)
