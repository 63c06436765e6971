-- The nested search of the code finds what `first_step` is: level by level, and over the ways in.
use Rattle.std.specs.Prelude.{Option, Some, None}
use mathlib.Core.Path.{◌≡◌, refl, sym, ap, ◌∙◌}
use mathlib.Core.Bool.{Bool, true, false, cond, ◌&&◌}
use mathlib.Core.List.{List}
use Prim.Native.Nat.{ℕ, suc, ◌+◌, ◌≤◌, ◌<◌}
use native.Mathlib.Omega.{arith}
use borrow.Author.Tests.{ne_eqb, lt-ltb, le-ltb, ltb-true}
use lib.Dec.{eqb, ltb}
use lib.ListN.{length, get_or}
use Rattle.laws.specs.Below.{or_else, given, first_found, first_below}
use Rattle.laws.proofs.Tests.{by_lt}
use Rattle.laws.proofs.Below.{first_below_le}
use Rattle.laws.proofs.Lists.{get_d-tab}
use Rattle.laws.proofs.Runs.{first_found_front}
use Rattle.laws.proofs.Found.{given_true, given_false, first_found_none, first_found_is, first_found_same, Nothing, nothing_end}
use Rattle.paper.specs.Timetable.{Tables, route_of, stop_at, arrive_at, walk_seconds}
use Rattle.paper.specs.Rows.{boards}
use Rattle.paper.specs.Tie.{boarded_first, left_first, trip_first, route_first, walk_between, walked_first, first_step}
use Rattle.paper.specs.declared.Leg.{Leg}
use Rattle.paper.proofs.Usable.{stop_is}
use Rattle.steps.specs.declared.Way.{Way}
use Rattle.extents.specs.declared.Extent.{Extent}
use Rattle.steps.specs.Search.{joins, seconds_below, seconds_to, way_of, on_foot, visit_at, Unvisited, Between, Ending, ends_in, Boarding, boards_in, Searched}
use Rattle.steps.specs.Rides.{Looking}
use Rattle.steps.proofs.Seconds.{seconds_hit, seconds_miss}
use Rattle.steps.proofs.Late.{too_late}
use Rattle.paper.proofs.RouteEnds.{positions_in}
use Rattle.steps.proofs.Stand.{arrive_is, depart_is, ending_in, boarding_in}

-- what the two inner loops seek
abbrev pub leg_at : ℕ → ℕ → ℕ → ℕ → Option ℕ → Leg
leg_at r j l i after = record { route = r; trip = j; board = i; leave = l; after = after }

abbrev pub on_board : Tables → List ℕ → Option ℕ → ℕ → ℕ → ℕ → ℕ → Option Leg
on_board T row after r j l i = given (boards (route_of T r) row j i) (Some (leg_at r j l i after))

abbrev pub on_leave : Tables → List ℕ → ℕ → ℕ → ℕ → Option ℕ → ℕ → ℕ → ℕ → Option Leg
on_leave T row s seconds v after r j l =
    given (eqb (stop_at (route_of T r) l) s && eqb (arrive_at (route_of T r) j l + seconds) v) (boarded_first T row s seconds v after r j l)

module _ {T : Tables} {row : List ℕ} {r : ℕ} {x : Extent} (k : Looking T row r x) where
  pub visits_in : x.first + x.n ≤ length T.t2
  visits_in = rw k.extent (positions_in T k.fit r k.route<)

  pub ends_in_lem : (j l : ℕ) → j < x.m → l < x.n → Ending T.t2 T.t3 x j l
  ends_in_lem j l = rw k.extent (λ lj ll. ending_in T k.fit r j l k.route< lj ll)

  pub boards_in_lem : (j i : ℕ) → j < x.m → i < x.n → Boarding T.t2 T.t4 row x j i
  boards_in_lem j i = rw k.extent (λ lj li. boarding_in T k.fit r j i k.route< lj li row k.labelled)

  ends_is : (j l s seconds v : ℕ) → j < x.m → l < x.n → ends_in T.t2 T.t3 x j l s seconds v ≡ (eqb (stop_at (route_of T r) l) s && eqb (arrive_at (route_of T r) j l + seconds) v)
  unfolding ends_in
  ends_is j l s seconds v = rw k.extent (λ lj ll. rw (stop_is T r l ll, arrive_is T k.fit r j l k.route< lj ll) refl)

  boards_is : (j i : ℕ) → j < x.m → i < x.n → boards_in T.t2 T.t4 row x j i ≡ boards (route_of T r) row j i
  unfolding boards_in boards
  boards_is j i = rw k.extent (λ lj li. rw (stop_is T r i li, depart_is T k.fit r j i k.route< lj li) refl)

  n_is : x.n ≡ (route_of T r).n
  unfolding route_of
  n_is = ap (λ (y : Extent). y.n) k.extent

  m_is : x.m ≡ (route_of T r).m
  unfolding route_of
  m_is = ap (λ (y : Extent). y.m) k.extent

  module _ (after : Option ℕ) (j : ℕ) (lj : j < x.m) (l : ℕ) (ll : l < x.n) where
    -- a boarding position, by the code's test
    pub board_miss : (i : ℕ) {b : Bool} → i < l → b ≡ boards_in T.t2 T.t4 row x j i → b ≡ false → on_board T row after r j l i ≡ None
    board_miss i li q f = given_false _ (sym (boards_is j i lj (omega arith)) ∙ sym q ∙ f)

    pub board_hit : (i : ℕ) {b : Bool} → i < l → b ≡ boards_in T.t2 T.t4 row x j i → b ≡ true → on_board T row after r j l i ≡ Some (leg_at r j l i after)
    board_hit i li q f = given_true _ (sym (boards_is j i lj (omega arith)) ∙ sym q ∙ f)

  module _ (s seconds v : ℕ) (after : Option ℕ) where
    -- a position that is no visit of the stop
    not_visit : (j l : ℕ) → l < x.n → visit_at T.t2 x s l ≡ false → on_leave T row s seconds v after r j l ≡ None
    not_visit j l ll f = given_false _ (and_false _ _ (stop_same ll ∙ f))
      where
        and_false : (a b : Bool) → a ≡ false → (a && b) ≡ false
        and_false a b h = rw h

        stop_same : l < x.n → eqb (stop_at (route_of T r) l) s ≡ eqb (get_or T.t2 (x.first + l) 0) s
        stop_same = rw k.extent (λ lx. ap (λ (n : ℕ). eqb n s) (stop_is T r l lx))

    -- the route does not visit the stop: it need not be searched
    pub not_visited : Unvisited T.t2 x s → trip_first T row s seconds v after r ≡ None
    unfolding trip_first left_first
    not_visited none =
        first_found_none (route_of T r).m (left_first T row s seconds v after r)
        (λ j lj. first_found_none (route_of T r).n (on_leave T row s seconds v after r j)
        (λ l ll. not_visit j l (omega (arith, n_is)) (none l (omega (arith, n_is)))))

    module _ (j : ℕ) (lj : j < x.m) where
      -- a leaving position, by the code's test
      module _ (l : ℕ) (ll : l < x.n) where
        pub leave_miss : {b : Bool} → b ≡ ends_in T.t2 T.t3 x j l s seconds v → b ≡ false → on_leave T row s seconds v after r j l ≡ None
        leave_miss q f = given_false _ (sym (ends_is j l s seconds v lj ll) ∙ sym q ∙ f)

        pub leave_hit : {b : Bool} {g : Option Leg} → b ≡ ends_in T.t2 T.t3 x j l s seconds v → b ≡ true → g ≡ boarded_first T row s seconds v after r j l
            → on_leave T row s seconds v after r j l ≡ g
        leave_hit q t e = given_true _ (sym (ends_is j l s seconds v lj ll) ∙ sym q ∙ t) ∙ sym e

        -- what the loop over boarding positions says
        pub boarded_none : (i : ℕ) → i ≡ l → Nothing (on_board T row after r j l) i → None ≡ boarded_first T row s seconds v after r j l
        unfolding boarded_first
        boarded_none i z h = sym (nothing_end (on_board T row after r j l) l i z h)

        pub boarded_some : (i : ℕ) → i < l → Nothing (on_board T row after r j l) i → on_board T row after r j l i ≡ Some (leg_at r j l i after)
            → Some (leg_at r j l i after) ≡ boarded_first T row s seconds v after r j l
        unfolding boarded_first
        boarded_some i z h g = sym (first_found_is l (on_board T row after r j l) i z g h)

      -- a trip, between the first visit and the last
      module _ {first past : ℕ} (visits : Between T.t2 x s first past) where
        pub trip_start : Nothing (on_leave T row s seconds v after r j) first
        trip_start l ll = by_lt l x.n
            (λ lx. not_visit j l lx (visits.before l ll))
            (λ nx. absurd (omega (arith, visits.first<)))

        pub left_none : (l : ℕ) → past ≤ l → Nothing (on_leave T row s seconds v after r j) l → None ≡ left_first T row s seconds v after r j
        unfolding left_first
        left_none l z h =
            sym (first_found_none (route_of T r).n (on_leave T row s seconds v after r j)
            (λ i li. let lx : i < x.n = omega (arith, n_is) in
            by_lt i l (h i) (λ g. not_visit j i lx (visits.after i (omega arith) lx))))

      pub left_some : (l : ℕ) {g : Leg} → l < x.n → Nothing (on_leave T row s seconds v after r j) l → on_leave T row s seconds v after r j l ≡ Some g
          → Some g ≡ left_first T row s seconds v after r j
      unfolding left_first
      left_some l z h g = sym (first_found_is (route_of T r).n (on_leave T row s seconds v after r j) l (omega (arith, n_is)) g h)

    -- a route
    pub trip_none : (j : ℕ) → j ≡ x.m → Nothing (left_first T row s seconds v after r) j → None ≡ trip_first T row s seconds v after r
    unfolding trip_first
    trip_none j z h = sym (nothing_end (left_first T row s seconds v after r) (route_of T r).m j (z ∙ m_is) h)

    pub trip_some : (j : ℕ) {g : Leg} → j < x.m → Nothing (left_first T row s seconds v after r) j → left_first T row s seconds v after r j ≡ Some g
        → Some g ≡ trip_first T row s seconds v after r
    unfolding trip_first
    trip_some j z h g = sym (first_found_is (route_of T r).m (left_first T row s seconds v after r) j (omega (arith, m_is)) g h)

-- ---- the ways in

-- what is sought along a way in
abbrev pub through : Tables → List ℕ → ℕ → Option Way → Option Leg
through T row v (Some w) = route_first T row w.stop w.seconds v w.after
through T row v None = None

abbrev pub on_way : Tables → List ℕ → List ℕ → ℕ → ℕ → List ℕ → ℕ → Option Leg
on_way T row next p v seconds way = through T row v (way_of seconds next p v way)

module _ (T : Tables) (row next : List ℕ) (ok : Searched T row next) (p v : ℕ) {seconds : List ℕ} (filled : seconds ≡ seconds_to T.t5 T.walks p) where
  along : ℕ → ℕ → Option Leg
  along s c = through T row v (on_foot next p v s c)

  -- the way from stop s is the walk from there
  walked_is : (s : ℕ) → s < T.stops → on_way T row next p v seconds (suc s) ≡ walked_first T row p v s
  unfolding way_of seconds_to walked_first along
  walked_is s l =
      ap (along s) (ap (λ (xs : List ℕ). get_or xs s 0) filled ∙ get_d-tab 256 (seconds_below T.t5 p T.walks) s 0 (omega (arith, ok.fit.sound.stops≤)))
      ∙ by_lt (walk_between T s p) T.walks
      (λ w<. ap (along s) (seconds_hit T.t5 p T.walks s (walk_between T s p) (unfold walk_between in refl) w<)
      ∙ open_walk w<
      ∙ sym (given_true _ (lt-ltb (walk_between T s p) T.walks w<)))
      (λ w≥. ap (along s) (seconds_miss T.t5 p T.walks s (at_end w≥)) ∙ sym (given_false _ (le-ltb (walk_between T s p) T.walks w≥)))
    where
      -- a way that is shut as too late has no step
      in_time : (c : ℕ) (b : Bool) → ltb v (get_or next s 0 + c) ≡ b → through T row v (cond b None (Some (record { stop = s; seconds = c; after = Some p }))) ≡ route_first T row s c v (Some p)
      in_time c true t =
          let a = ok.next_first s l in
          let b = ltb-true v (get_or next s 0 + c) t in
          sym (too_late T row s c v (Some p) (omega arith))
      in_time c false t = refl

      open_walk : walk_between T s p < T.walks → along s (walk_seconds T (walk_between T s p)) ≡ route_first T row s (walk_seconds T (walk_between T s p)) v (Some p)
      open_walk w< =
          let c = walk_seconds T (walk_between T s p) in
          let h = (ok.fit.sound.walk (walk_between T s p) w<).seconds≥ in
          ap (λ (b : Bool). through T row v (cond b None (cond (ltb v (get_or next s 0 + c)) None (Some (record { stop = s; seconds = c; after = Some p }))))) (ne_eqb c 0 (omega arith))
          ∙ in_time c (ltb v (get_or next s 0 + c)) refl

      at_end : T.walks ≤ walk_between T s p → first_below T.walks (joins T.t5 s p) ≡ T.walks
      at_end w≥ = unfold walk_between in (let m = first_below_le T.walks (joins T.t5 s p) in omega arith)

  ways_are : first_step T row p v ≡ first_found (suc T.stops) (on_way T row next p v seconds)
  unfolding first_step way_of
  ways_are =
      ap (or_else (route_first T row p 0 v None)) (sym (first_found_same T.stops _ (walked_first T row p v) walked_is))
      ∙ sym (first_found_front T.stops (on_way T row next p v seconds))

  pub step_none : (way : ℕ) → way ≡ T.stops + 1 → Nothing (on_way T row next p v seconds) way → None ≡ first_step T row p v
  step_none way z h = sym (ways_are ∙ nothing_end (on_way T row next p v seconds) (suc T.stops) way (omega arith) h)

  pub step_some : (way : ℕ) {g : Leg} → way ≤ T.stops → Nothing (on_way T row next p v seconds) way → on_way T row next p v seconds way ≡ Some g → Some g ≡ first_step T row p v
  step_some way l h e = sym (ways_are ∙ first_found_is (suc T.stops) (on_way T row next p v seconds) way (omega arith) e h)

-- a way in, by what the code was told of it
module _ (T : Tables) (row next : List ℕ) (p v : ℕ) (seconds : List ℕ) (way : ℕ) {w : Option Way} (e : w ≡ way_of seconds next p v way) where
  pub way_is : {g : Option Leg} → g ≡ through T row v w → on_way T row next p v seconds way ≡ g
  way_is q = ap (through T row v) (sym e) ∙ sym q
