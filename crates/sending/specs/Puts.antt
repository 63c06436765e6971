-- What the functions take and promise: bytes put into the feed's buffer one after the other.
use Rattle.std.specs.Prelude.{◌≡◌, List, [], ◌∷◌, ◌++◌, ℕ, ◌+◌, ◌*◌, ◌-◌, ◌≤◌, ◌<◌, length, get_or, take}
use Rattle.laws.specs.Below.{sum_below}
use Rattle.laws.specs.Lists.{over, pieces}
use Rattle.laws.specs.Fields.{two_bytes}
use Rattle.paper.specs.Timetable.{Tables, n_of, m_of, first_position, first_event, walk_from, walk_to, walk_seconds}
use Rattle.paper.specs.Rules.{Fit}
use Rattle.paper.specs.Feed.{trip_bytes, route_bytes, routes_bytes, walk_bytes, walks_bytes, size_of, fletcher_of}
use Rattle.paper.specs.declared.Heads.{Heads}
use Rattle.lettering.specs.Put.{HasRoom}
use Rattle.lettering.specs.declared.Pen.{Pen}

-- the bytes xs were put at `at` into d₀, which has become d; r is the offset behind them
pub record Puts (xs : List ℕ) (at : ℕ) (d₀ : List ℕ) (r : ℕ) (d : List ℕ) : Type 0 where
  pub next : r ≡ at + length xs
  pub fits : at + length xs ≤ length d₀
  pub is : d ≡ over (take at d₀ ++ xs) d₀

-- the pen has put the bytes xs, in the same buffer
pub record Sent (xs : List ℕ) (p q : Pen) : Type 0 where
  pub puts : Puts xs p.at p.out.now q.at q.out.now
  pub same : q.out.ghost_name ≡ p.out.ghost_name

-- a number below the bound, and room for its n bytes
pub record CanPutField (x bound n : ℕ) (p : Pen) : Type 0 where
  pub small : x < bound
  pub room : HasRoom n p

-- k elements of table d from v on are there, and below the bound
pub record Small (d : List ℕ) (v k bound : ℕ) : Type 0 where
  pub there : v + k ≤ length d
  pub each : (i : ℕ) → i < k → get_or d (v + i) 0 < bound

pub record EventFits (x y : ℕ) (p : Pen) : Type 0 where
  pub arrival< : x < 16777216
  pub departure< : y < 16777216
  pub room : HasRoom 6 p

pub record StopsFit (stops : List ℕ) (p : Pen) : Type 0 where
  pub each : (i : ℕ) → i < length stops → get_or stops i 0 < 256
  pub room : HasRoom (length stops) p

pub record TripFits (T : Tables) (n v : ℕ) (p : Pen) : Type 0 where
  pub arrivals : Small T.t3 v n 16777216
  pub departures : Small T.t4 v n 16777216
  pub room : HasRoom (length (trip_bytes T n v)) p

pub record TripsFit (T : Tables) (n m v : ℕ) (p : Pen) : Type 0 where
  pub arrivals : Small T.t3 v (n * m) 16777216
  pub departures : Small T.t4 v (n * m) 16777216
  pub room : HasRoom (length (pieces m (λ j. trip_bytes T n (v + j * n)))) p

-- route r's numbers can be written
pub record RouteFits (T : Tables) (r : ℕ) : Type 0 where
  pub row : r * 4 + 4 ≤ length T.t1
  pub n≤ : n_of T r ≤ 64
  pub m≤ : m_of T r ≤ 512
  pub stops : Small T.t2 (first_position T r) (n_of T r) 256
  pub arrivals : Small T.t3 (first_event T r) (n_of T r * m_of T r) 16777216
  pub departures : Small T.t4 (first_event T r) (n_of T r * m_of T r) 16777216

pub record RouteRoom (T : Tables) (r : ℕ) (p : Pen) : Type 0 where
  pub fits : RouteFits T r
  pub room : HasRoom (length (route_bytes T r)) p

pub record RoutesRoom (T : Tables) (k : ℕ) (p : Pen) : Type 0 where
  pub fits : (r : ℕ) → r < k → RouteFits T r
  pub room : HasRoom (length (routes_bytes T k)) p

-- walk w's numbers can be written
pub record WalkFits (T : Tables) (w : ℕ) : Type 0 where
  pub row : w * 3 + 3 ≤ length T.t5
  pub from< : walk_from T w < 256
  pub to< : walk_to T w < 256
  pub seconds< : walk_seconds T w < 65536

pub record WalkRoom (T : Tables) (w : ℕ) (p : Pen) : Type 0 where
  pub fits : WalkFits T w
  pub room : HasRoom (length (walk_bytes T w)) p

pub record WalksRoom (T : Tables) (k : ℕ) (p : Pen) : Type 0 where
  pub fits : (w : ℕ) → w < k → WalkFits T w
  pub room : HasRoom (length (walks_bytes T k)) p

-- ---- the head and the end

abbrev pub head_of : Heads → ℕ → List ℕ
head_of h size = 0x54 ∷ 0x48 ∷ 1 ∷ (h.stops - 1) ∷ h.routes ∷ (two_bytes h.walks ++ two_bytes size)

pub record HeadFits (h : Heads) (size : ℕ) (p : Pen) : Type 0 where
  pub stops≥ : 1 ≤ h.stops
  pub stops≤ : h.stops ≤ 256
  pub routes≤ : h.routes ≤ 64
  pub walks≤ : h.walks ≤ 512
  pub size< : size < 65536
  pub room : HasRoom 9 p

-- the end record behind the bytes xs
abbrev pub end_of : List ℕ → List ℕ
end_of xs =
    0x45
    ∷ 0x44
    ∷ (fletcher_of (xs ++ (0x45 ∷ 0x44 ∷ []))).first
    ∷ (fletcher_of (xs ++ (0x45 ∷ 0x44 ∷ []))).second
    ∷ []

-- ---- the size, from table 1 alone

unfoldable pub route_size : Tables → ℕ → ℕ
route_size T r = 5 + n_of T r + (2 + 6 * n_of T r) * m_of T r

pub record RouteSmall (n m : ℕ) : Type 0 where
  pub n≤ : n ≤ 64
  pub m≤ : m ≤ 512

unfoldable pub size_by : Tables → ℕ → ℕ → ℕ
size_by T routes walks = 13 + sum_below routes (route_size T) + 6 * walks

pub record SizeFits (T : Tables) (routes walks : ℕ) : Type 0 where
  pub rows : routes * 4 ≤ length T.t1
  pub routes≤ : routes ≤ 64
  pub walks≤ : walks ≤ 512
  pub route : (r : ℕ) → r < routes → RouteSmall (n_of T r) (m_of T r)

-- ---- the whole feed

-- a sound timetable in tables of full size, whose feed, of this size, has room
pub record FeedFits (T : Tables) (size : ℕ) (out : List ℕ) : Type 0 where
  pub fit : Fit T
  pub is : size ≡ size_of T
  pub room : size ≤ length out
