-- The work of a look, of a round and of a question is within document 01's limit.
use mathlib.Core.Bool.{Bool, true, false, cond}
use mathlib.Core.List.{List}
use Prim.Native.Nat.{ℕ, zero, suc, ◌+◌, ◌*◌, ◌-◌, ◌≤◌, ◌<◌, min}
use native.Mathlib.Nat.{le_refl, le_trans, mul-le-mul}
use native.Mathlib.Omega.{arith}
use lib.Dec.{eqb, ltb}
use Rattle.laws.specs.Below.{mark, sum_below}
use Rattle.paper.specs.Timetable.{Tables, Route, route_of, stop_at, n_of, m_of, positions_to, trips_to}
use Rattle.paper.specs.Rows.{label, row_of}
use Rattle.paper.specs.Work.{first_caught, caught, cost_at, look_cost, round_cost, rounds_run, work_to, work_of, limit_of}
use Rattle.paper.specs.declared.Question.{Question}
use Rattle.paper.proofs.Usable.{Usable}

-- a position costs at most what the trip falls there, and one
pub cost_le : (R : Route) (row : List ℕ) (i : ℕ) → cost_at R row i + caught R row (suc i) ≤ caught R row i + 1
unfolding cost_at caught
cost_le R row i = go (eqb (label row (stop_at R i)) mark) (ltb 0 d)
  where
    d : ℕ
    d = min (caught R row i) (first_caught R row i)

    go : (a b : Bool) → (cond a 0 (caught R row i - d + cond b 1 0)) + d ≤ caught R row i + 1
    go true b = omega arith
    go false true = omega arith
    go false false = omega arith

-- so all falls together are at most m, and the ones at most one a position
pub looks_le : (R : Route) (row : List ℕ) (k : ℕ) → sum_below k (cost_at R row) + caught R row k ≤ R.m + k
unfolding sum_below caught
looks_le R row zero = omega arith
looks_le R row (suc k) =
    let a = looks_le R row k in
    let b = cost_le R row k in
    omega arith

pub look_le : (R : Route) (row : List ℕ) → 0 < R.n → look_cost R row + 1 ≤ R.n + R.m
unfolding look_cost
look_le R row h = let a = looks_le R row (R.n - 1) in omega arith

-- what a round costs at most: positions - routes + trips + walks
abbrev pub round_limit : Tables → ℕ
round_limit T = positions_to T T.routes - T.routes + trips_to T T.routes + T.walks

module _ (T : Tables) (us : Usable T) where
  -- the routes below k, each with one for itself
  looks_all : (row : List ℕ) (k : ℕ) → k ≤ T.routes → sum_below k (λ r. look_cost (route_of T r) row) + k ≤ positions_to T k + trips_to T k
  unfolding positions_to trips_to sum_below
  looks_all row zero l = omega arith
  looks_all row (suc k) l =
      let a = looks_all row k (omega arith) in
      let b : look_cost (route_of T k) row + 1 ≤ n_of T k + m_of T k = unfold route_of in (look_le (route_of T k) row (us.some_position k l)) in
      omega arith

  pub routes_le : (k : ℕ) → k ≤ T.routes → k ≤ positions_to T k
  unfolding positions_to sum_below
  routes_le zero l = omega arith
  routes_le (suc k) l =
      let a = routes_le k (omega arith) in
      let b : 0 < n_of T k = unfold route_of in (us.some_position k l) in
      omega arith

  pub round_le : (row : List ℕ) → round_cost T row ≤ round_limit T
  unfolding round_cost
  round_le row =
      let a = looks_all row T.routes (le_refl T.routes) in
      let b = routes_le T.routes (le_refl T.routes) in
      omega arith

  pub work_to_le : (q : Question) (k : ℕ) → work_to T q k ≤ k * round_limit T
  unfolding work_to sum_below
  work_to_le q zero = omega arith
  work_to_le q (suc k) =
      let a = work_to_le q k in
      let b = round_le (row_of T q k) in
      omega arith

  pub work_limit : (q : Question) → q.limit ≤ 8 → work_of T q ≤ limit_of T
  unfolding work_of limit_of rounds_run
  work_limit q h = le_trans (work_to_le q (rounds_run T q)) (mul-le-mul (omega arith) (le_refl (round_limit T)))
