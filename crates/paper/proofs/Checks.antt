-- The rules that compute and 01's words are one: nothing is refused exactly where the tables are sound.
use mathlib.Core.Path.{◌≡◌, refl, ◌∙◌}
use mathlib.Core.Bool.{false}
use Rattle.std.specs.Prelude.{Option, Some, None}
use Prim.Native.Nat.{ℕ, zero, suc, ◌+◌, ◌*◌, ◌-◌, ◌≤◌, ◌<◌}
use native.Mathlib.Nat.{le_refl}
use native.Mathlib.Omega.{arith}
use Rattle.laws.specs.Below.{or_else, given, sum_below}
use Rattle.laws.proofs.Checking.{or_else_nothing}
use Rattle.laws.proofs.Below.{sum_below_at}
use Rattle.laws.proofs.Found.{some_none, or_else_none, given_false, first_found_none, first_found_never}
use Rattle.paper.specs.Timetable.{Tables, n_of, m_of, positions_to, trips_to, events_to, route_of}
use Rattle.paper.specs.Rules.{Refusal, heads_broken, route_broken, stop_broken, time_broken, overtakes, event_of, lowest_of, lowest_time, lowest_overtaken, walk_broken, opens, count_rules, whole_rules, refused_by, first_broken, fault_of, Sound}
use Rattle.paper.proofs.Written.{Counts, sound_counts}
use Rattle.paper.proofs.Lowest.{given_nothing, lowest_none, lowest_passed}
use Rattle.paper.proofs.Places.{heads_right, heads_whole, RouteRight, route_right, route_whole, stop_right, stop_whole, time_right, time_whole, order_right, order_whole, Rising, walk_right, walk_whole, open_right, open_whole}

-- "5 (head counts, then routes upwards)" refuses nothing
pub record CountsUnbroken (T : Tables) : Type 0 where
  pub heads : heads_broken T ≡ false
  pub routes : lowest_of T.routes (route_broken T) ≡ None

-- 7 to 11 refuse nothing
pub record WholeUnbroken (T : Tables) : Type 0 where
  pub stops : lowest_of (positions_to T T.routes) (stop_broken T) ≡ None
  pub times : lowest_time T ≡ None
  pub overtaken : lowest_overtaken T ≡ None
  pub walks : lowest_of T.walks (walk_broken T) ≡ None
  pub opened : lowest_of T.walks (opens T) ≡ None

pub refused_none : (number : ℕ) (x : Option ℕ) → refused_by number x ≡ None → x ≡ None
unfolding refused_by
refused_none number None e = refl
refused_none number (Some place) e = absurd (some_none refl e)

none_refused : (number : ℕ) {x : Option ℕ} → x ≡ None → refused_by number x ≡ None
unfolding refused_by
none_refused number e = rw e

-- one rule more refuses nothing
both_none : (number : ℕ) {x : Option ℕ} {y : Option Refusal} → x ≡ None → y ≡ None → or_else (refused_by number x) y ≡ None
both_none number {x} {y} e h = or_else_none y (none_refused number e) ∙ h

module _ (T : Tables) where
  pub counts_unbroken : first_broken count_rules T ≡ None → CountsUnbroken T
  unfolding first_broken
  counts_unbroken e =
      let a = or_else_nothing (refused_by 5 (given (heads_broken T) (Some 64))) _ e in
      let b = or_else_nothing (refused_by 5 (lowest_of T.routes (route_broken T))) _ a.1 in
      record {
        heads = given_nothing (heads_broken T) 64 (refused_none 5 _ a.0);
        routes = refused_none 5 _ b.0;
      }

  pub counts_none : CountsUnbroken T → first_broken count_rules T ≡ None
  unfolding first_broken
  counts_none h = both_none 5 (given_false (Some 64) h.heads) (both_none 5 h.routes refl)

  pub whole_unbroken : first_broken whole_rules T ≡ None → WholeUnbroken T
  unfolding first_broken
  whole_unbroken e =
      let a = or_else_nothing (refused_by 7 (lowest_of (positions_to T T.routes) (stop_broken T))) _ e in
      let b = or_else_nothing (refused_by 8 (lowest_time T)) _ a.1 in
      let d = or_else_nothing (refused_by 9 (lowest_overtaken T)) _ b.1 in
      let f = or_else_nothing (refused_by 10 (lowest_of T.walks (walk_broken T))) _ d.1 in
      let g = or_else_nothing (refused_by 11 (lowest_of T.walks (opens T))) _ f.1 in
      record {
        stops = refused_none 7 _ a.0;
        times = refused_none 8 _ b.0;
        overtaken = refused_none 9 _ d.0;
        walks = refused_none 10 _ f.0;
        opened = refused_none 11 _ g.0;
      }

  pub unbroken_whole : WholeUnbroken T → first_broken whole_rules T ≡ None
  unfolding first_broken
  unbroken_whole h = both_none 7 h.stops (both_none 8 h.times (both_none 9 h.overtaken (both_none 10 h.walks (both_none 11 h.opened refl))))

  -- ---- from the rules to 01's words

  pub routes_right : CountsUnbroken T → (r : ℕ) → r < T.routes → RouteRight T r
  routes_right h r l = route_right T r (lowest_passed T.routes (route_broken T) h.routes r l)

  trips_most : (k : ℕ) → ((r : ℕ) → r < k → trips_to T r + m_of T r ≤ 512) → trips_to T k ≤ 512
  unfolding trips_to sum_below
  trips_most zero h = omega arith
  trips_most (suc k) h = h k (le_refl (suc k))

  events_most : (k : ℕ) → ((r : ℕ) → r < k → events_to T r + n_of T r * m_of T r ≤ 2048) → events_to T k ≤ 2048
  unfolding events_to sum_below
  events_most zero h = omega arith
  events_most (suc k) h = h k (le_refl (suc k))

  pub counts_trips : CountsUnbroken T → trips_to T T.routes ≤ 512
  counts_trips h = trips_most T.routes (λ r l. (routes_right h r l).counts.trips≤)

  pub counts_events : CountsUnbroken T → events_to T T.routes ≤ 2048
  counts_events h = events_most T.routes (λ r l. (routes_right h r l).counts.events≤)

  time_never : lowest_time T ≡ None → (r j i : ℕ) → r < T.routes → j < m_of T r → i < n_of T r → time_broken (route_of T r) j i ≡ false
  unfolding lowest_time
  time_never e r j i l m n =
      given_nothing (time_broken (route_of T r) j i) (event_of T r j i)
      (first_found_never (n_of T r) _ (first_found_never (m_of T r) _ (first_found_never T.routes _ e r l) j m) i n)

  overtaken_never : lowest_overtaken T ≡ None → (r j i : ℕ) → r < T.routes → j < m_of T r - 1 → i < n_of T r → overtakes (route_of T r) j i ≡ false
  unfolding lowest_overtaken
  overtaken_never e r j i l m n =
      given_nothing (overtakes (route_of T r) j i) (event_of T r (j + 1) i)
      (first_found_never (n_of T r) _ (first_found_never (m_of T r - 1) _ (first_found_never T.routes _ e r l) j m) i n)

  pub walks_right : lowest_of T.walks (walk_broken T) ≡ None → (w : ℕ) → w < T.walks → walk_broken T w ≡ false
  walks_right e = lowest_passed T.walks (walk_broken T) e

  pub walks_rising : lowest_of T.walks (walk_broken T) ≡ None → (w : ℕ) → w + 1 < T.walks → Rising T w (w + 1)
  walks_rising e w l =
      let z : w + 1 - 1 ≡ w = omega arith in
      rw z at ((walk_right T (w + 1) (walks_right e (w + 1) l)).1 (omega arith))

  sound_by : CountsUnbroken T → WholeUnbroken T → Sound T
  sound_by x y =
      let h = heads_right T x.heads in
      let route = routes_right x in
      record {
        stops≥ = h.stops≥;
        stops≤ = h.stops≤;
        routes≤ = h.routes≤;
        walks≤ = h.walks≤;
        route = λ r l. record {
          n≥ = (route r l).counts.n≥;
          n≤ = (route r l).counts.n≤;
          m≥ = (route r l).counts.m≥;
          m≤ = (route r l).counts.m≤;
          first_position_is = (route r l).first_position_is;
          first_event_is = (route r l).first_event_is;
        };
        trips≤ = counts_trips x;
        events≤ = counts_events x;
        stop< = λ p l. stop_right T p (lowest_passed _ (stop_broken T) y.stops p l);
        times = λ r j i l m n. time_right (route_of T r) j i (time_never y.times r j i l m n);
        no_overtaking = λ r j i l m n. order_right (route_of T r) j i (overtaken_never y.overtaken r j i l (omega arith) n);
        walk = λ w l. (walk_right T w (walks_right y.walks w l)).0;
        rising = walks_rising y.walks;
        closed = λ v w l m. open_right T v (lowest_passed _ (opens T) y.opened v l) w m;
      }

  pub sound_of : fault_of T ≡ None → Sound T
  unfolding fault_of
  sound_of e =
      let a = or_else_nothing (first_broken count_rules T) (first_broken whole_rules T) e in
      sound_by (counts_unbroken a.0) (whole_unbroken a.1)

  -- ---- from 01's words to the rules

  pub route_of_lem : Counts T → (r : ℕ) → r < T.routes → RouteRight T r
  unfolding trips_to events_to
  route_of_lem c r l =
      let R = c.route r l in
      record {
        counts = record {
          n≥ = R.n≥;
          n≤ = R.n≤;
          m≥ = R.m≥;
          m≤ = R.m≤;
          trips≤ = omega (arith, sum_below_at T.routes r (m_of T) l, c.trips≤);
          events≤ = omega (arith, sum_below_at T.routes r (λ q. n_of T q * m_of T q) l, c.events≤);
        };
        first_position_is = R.first_position_is;
        first_event_is = R.first_event_is;
      }

  pub counts_of : Counts T → CountsUnbroken T
  counts_of c =
      record {
        heads = heads_whole T (record { stops≥ = c.stops≥; stops≤ = c.stops≤; routes≤ = c.routes≤; walks≤ = c.walks≤ });
        routes = lowest_none T.routes (route_broken T) (λ r l. route_whole T r (route_of_lem c r l));
      }

  times_none : Sound T → lowest_time T ≡ None
  unfolding lowest_time
  times_none s =
      first_found_none T.routes _ (λ r l. first_found_none (m_of T r) _ (λ j m. first_found_none (n_of T r) _ (λ i n.
      given_false (Some (event_of T r j i)) (time_whole (route_of T r) j i (s.times r j i l m n)))))

  overtaken_none : Sound T → lowest_overtaken T ≡ None
  unfolding lowest_overtaken
  overtaken_none s =
      first_found_none T.routes _ (λ r l. first_found_none (m_of T r - 1) _ (λ j m. first_found_none (n_of T r) _ (λ i n.
      given_false (Some (event_of T r (j + 1) i)) (order_whole (route_of T r) j i (s.no_overtaking r j i l (omega arith) n)))))

  rising_to : Sound T → (w : ℕ) → w < T.walks → 0 < w → Rising T (w - 1) w
  rising_to s w l z =
      let e : w - 1 + 1 ≡ w = omega arith in
      rw e at (s.rising (w - 1) (omega arith))

  pub whole_of_lem : Sound T → WholeUnbroken T
  whole_of_lem s =
      record {
        stops = lowest_none _ (stop_broken T) (λ p l. stop_whole T p (s.stop< p l));
        times = times_none s;
        overtaken = overtaken_none s;
        walks = lowest_none _ (walk_broken T) (λ w l. walk_whole T w (s.walk w l) (rising_to s w l));
        opened = lowest_none _ (opens T) (λ v l. open_whole T v (λ w m. s.closed v w l m));
      }

  pub whole_none : Sound T → first_broken whole_rules T ≡ None
  whole_none s = unbroken_whole (whole_of_lem s)

  pub none_of : Sound T → fault_of T ≡ None
  unfolding fault_of
  none_of s = or_else_none (first_broken whole_rules T) (counts_none (counts_of (sound_counts s))) ∙ whole_none s
