-- 8 and 9 over the routes: a place within a route, counted among all events.
use Rattle.std.specs.Prelude.{Option, Some, None}
use mathlib.Core.Path.{◌≡◌, refl, sym, ◌∙◌}
use mathlib.Core.Bool.{Bool, true, false}
use mathlib.Core.List.{List}
use Prim.Native.Nat.{ℕ, zero, suc, ◌+◌, ◌*◌, ◌-◌, ◌≤◌, ◌<◌}
use native.Mathlib.Omega.{arith}
use Rattle.laws.specs.Below.{or_else, given, first_found}
use Rattle.laws.proofs.Tests.{cell_in}
use Rattle.laws.proofs.Found.{Nothing, some_same, given_some, first_found_hit, first_found_same, first_found_is, nothing_end}
use Rattle.paper.specs.Timetable.{Tables, Route, n_of, m_of, first_event, route_of}
use Rattle.paper.specs.Rules.{time_broken, overtakes, event_of, lowest_time, lowest_overtaken}
use Rattle.extents.specs.declared.Extent.{Extent}
use Rattle.extents.specs.Extent.{extent_of}
use Rattle.route_times.specs.declared.Sought.{Sought}
use Rattle.route_times.specs.Route.{ahead, event_broken}
use Rattle.trips.specs.Places.{broken_in, lowest_event, further, cut, broken_at}
use Rattle.trips.specs.Needed.{Lies}

further_else : (a : ℕ) (x y : Option ℕ) → or_else (further a x) (further a y) ≡ further a (or_else x y)
unfolding further or_else
further_else a None y = refl
further_else a (Some x) y = refl

further_found : (a k : ℕ) (f : ℕ → Option ℕ) → first_found k (λ i. further a (f i)) ≡ further a (first_found k f)
unfolding first_found further
further_found a zero f = refl
further_found a (suc k) f = rw (further_found a k f) (further_else a (first_found k f) (f k))

further-given : (a : ℕ) (b : Bool) (x : ℕ) → given b (Some (a + x)) ≡ further a (given b (Some x))
unfolding given further
further-given a true x = refl
further-given a false x = refl

-- a search of two loops, counted from a
further_nested : (a m n : ℕ) (b : ℕ → ℕ → Bool) (at from : ℕ → ℕ → ℕ) → ((j i : ℕ) → from j i ≡ a + at j i) →
    (first_found m λ j. first_found n λ i. given (b j i) (Some (from j i)))
    ≡ further a (first_found m λ j. first_found n λ i. given (b j i) (Some (at j i)))
further_nested a m n b at from h =
    first_found_same m _ _ (λ j _.
    first_found_same n _ _ (λ i _. (rw (h j i) refl) ∙ further-given a (b j i) (at j i))
    ∙ further_found a n (λ i. given (b j i) (Some (at j i))))
    ∙ further_found a m (λ j. first_found n λ i. given (b j i) (Some (at j i)))

-- what is found in two loops is at some place
record NestedAt (m n : ℕ) (b : ℕ → ℕ → Bool) (at : ℕ → ℕ → ℕ) (p : ℕ) : Type 0 where
  trip : ℕ
  position : ℕ
  trip< : trip < m
  position< : position < n
  is : at trip position ≡ p

nested_at : (m n : ℕ) (b : ℕ → ℕ → Bool) (at : ℕ → ℕ → ℕ) (p : ℕ) →
    (first_found m λ j. first_found n λ i. given (b j i) (Some (at j i))) ≡ Some p → NestedAt m n b at p
nested_at m n b at p e =
    let x = first_found_hit m _ p e in
    let y = first_found_hit n _ p x.is in
    let z = given_some (b x.at y.at) (Some (at x.at y.at)) y.is in
    record { trip = x.at; position = y.at; trip< = x.below; position< = y.below; is = some_same z.1 }

broken_below : (s : Sought) (R : Route) (p : ℕ) → broken_in s R ≡ Some p → p < R.n * R.m
unfolding broken_in
broken_below s R p e =
    let x = nested_at (R.m - ahead s) R.n (event_broken s R) (λ j i. (j + ahead s) * R.n + i) p e in
    let l : x.trip < R.m - ahead s = x.trip< in
    rw (← x.is) (cell_in R.n R.m (x.trip + ahead s) x.position (omega arith) x.position<)

-- ---- one route, as it lies in the tables

module _ (s : Sought) (x : Extent) (t3 t4 : List ℕ) where
  pub cut_below : {p : ℕ} → Lies x t3 t4 → Some p ≡ broken_in s (cut x t3 t4) → x.event + p < 2048
  cut_below {p} h e = omega (arith, h.events≤, broken_below s (cut x t3 t4) p (sym e))

  pub cut_found : {p : ℕ} → Some p ≡ broken_in s (cut x t3 t4) → Some (x.event + p) ≡ broken_at s x t3 t4
  unfolding broken_at further
  cut_found e = rw (← e)

  pub cut_none : None ≡ broken_in s (cut x t3 t4) → None ≡ broken_at s x t3 t4
  unfolding broken_at further
  cut_none e = rw (← e)

-- ---- all routes

module _ (T : Tables) where
  -- the rule that is sought, on route r
  abbrev pub broken : Sought → ℕ → Option ℕ
  broken s r = broken_at s (extent_of T.t1 r) T.t3 T.t4

  overtaken_route : (r : ℕ) →
      (first_found (m_of T r - 1) λ j. first_found (n_of T r) λ i. given (overtakes (route_of T r) j i) (Some (event_of T r (j + 1) i)))
      ≡ broken Sought.Overtake r
  unfolding broken_at broken_in event_broken event_of route_of overtakes
  overtaken_route r =
      further_nested (first_event T r) (m_of T r - 1) (n_of T r) (overtakes (cut (extent_of T.t1 r) T.t3 T.t4)) (λ j i. (j + 1) * n_of T r + i) _
      (λ j i. refl)

  time_route : (r : ℕ) →
      (first_found (m_of T r) λ j. first_found (n_of T r) λ i. given (time_broken (route_of T r) j i) (Some (event_of T r j i)))
      ≡ broken Sought.Time r
  unfolding broken_at broken_in event_broken event_of route_of time_broken
  time_route r =
      let z : m_of T r - 0 ≡ m_of T r = omega arith in
      rw z
      (further_nested (first_event T r) (m_of T r) (n_of T r) (time_broken (cut (extent_of T.t1 r) T.t3 T.t4)) (λ j i. (j + 0) * n_of T r + i) _
      (λ j i. let y : j + 0 ≡ j = omega arith in rw y refl))

  all_broken : (s : Sought) → lowest_event s T ≡ first_found T.routes (broken s)
  unfolding lowest_event lowest_time lowest_overtaken
  all_broken Sought.Time = first_found_same T.routes _ _ (λ r l. time_route r)
  all_broken Sought.Overtake = first_found_same T.routes _ _ (λ r l. overtaken_route r)

  module _ (s : Sought) (r : ℕ) {x : Extent} (is : x ≡ extent_of T.t1 r) where
    pub route_found : {p : ℕ} → r < T.routes → Nothing (broken s) r → Some p ≡ broken_at s x T.t3 T.t4 → Some p ≡ lowest_event s T
    route_found l h q = rw (all_broken s, first_found_is T.routes (broken s) r l (sym (rw is at q)) h)

  pub route_none : (s : Sought) (r : ℕ) → T.routes ≤ r → r ≤ T.routes → Nothing (broken s) r → None ≡ lowest_event s T
  route_none s r l u h = rw (all_broken s, nothing_end (broken s) T.routes r (omega arith) h)
