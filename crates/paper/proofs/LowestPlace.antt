-- A refusal is that of the first broken rule, at its lowest broken place.
use mathlib.Core.Path.{◌≡◌, refl}
use mathlib.Core.Logic.{◌⊎◌, inl, inr, ⊎_elim}
use mathlib.Core.Bool.{Bool, true, false}
use Rattle.std.specs.Prelude.{Option, Some, None}
use Prim.Native.Nat.{ℕ, ◌+◌, ◌*◌, ◌-◌, ◌<◌}
use native.Mathlib.Omega.{arith}
use lib.Arith.{digits_lt}
use Rattle.laws.specs.Below.{or_else, given, first_found}
use Rattle.laws.proofs.Tests.{by_lt, cell_in}
use Rattle.laws.proofs.Below.{sum_below_at}
use Rattle.laws.proofs.Found.{some_none, some_same, given_some, first_found_hit, first_found_never}
use Rattle.paper.specs.Timetable.{Tables, n_of, m_of, positions_to, events_to, route_of}
use Rattle.paper.specs.Rules.{Refusal, refusal, heads_broken, route_broken, stop_broken, time_broken, overtakes, event_of, lowest_of, lowest_time, lowest_overtaken, walk_broken, opens, count_rules, whole_rules, refused_by, first_broken, fault_of}
use Rattle.paper.proofs.Lowest.{given_nothing, LowestAt, lowest_hit}
use Rattle.paper.proofs.Checks.{CountsUnbroken, counts_unbroken, routes_right, refused_none}

-- an event is broken whose number is e, and no event of a lower number is. `broken` and `number` go by route, trip and position
pub record LowestEvent (T : Tables) (trips : ℕ → ℕ) (broken : ℕ → ℕ → ℕ → Bool) (number : ℕ → ℕ → ℕ → ℕ) (e : ℕ) : Type 0 where
  pub route : ℕ
  pub trip : ℕ
  pub position : ℕ
  pub route< : route < T.routes
  pub trip< : trip < trips route
  pub position< : position < n_of T route
  pub is : number route trip position ≡ e
  pub broken_there : broken route trip position ≡ true
  pub none_lower : (r j i : ℕ) → r < T.routes → j < trips r → i < n_of T r → number r j i < e → broken r j i ≡ false

abbrev pub LowestTime : Tables → ℕ → Type 0
LowestTime T e = LowestEvent T (m_of T) (λ r j i. time_broken (route_of T r) j i) (event_of T) e

-- "the later trip's event"
abbrev pub LowestOvertaken : Tables → ℕ → Type 0
LowestOvertaken T e = LowestEvent T (λ r. m_of T r - 1) (λ r j i. overtakes (route_of T r) j i) (λ r j i. event_of T r (j + 1) i) e

-- the rules before a rule refuse nothing
pub record Till8 (T : Tables) : Type 0 where
  pub counts : CountsUnbroken T
  pub stops : lowest_of (positions_to T T.routes) (stop_broken T) ≡ None

pub record Till9 (T : Tables) : Type 0 where
  pub before : Till8 T
  pub times : lowest_time T ≡ None

pub record Till10 (T : Tables) : Type 0 where
  pub before : Till9 T
  pub overtaken : lowest_overtaken T ≡ None

pub record Till11 (T : Tables) : Type 0 where
  pub before : Till10 T
  pub walks : lowest_of T.walks (walk_broken T) ≡ None

pub data FirstRefusal (T : Tables) : Refusal → Type 0 where
  by_heads : heads_broken T ≡ true → FirstRefusal T (refusal 5 64)
  by_route : {p : ℕ} → heads_broken T ≡ false → LowestAt T.routes (route_broken T) p → FirstRefusal T (refusal 5 p)
  by_stop : {p : ℕ} → CountsUnbroken T → LowestAt (positions_to T T.routes) (stop_broken T) p → FirstRefusal T (refusal 7 p)
  by_time : {p : ℕ} → Till8 T → LowestTime T p → FirstRefusal T (refusal 8 p)
  by_overtaken : {p : ℕ} → Till9 T → LowestOvertaken T p → FirstRefusal T (refusal 9 p)
  by_walk : {p : ℕ} → Till10 T → LowestAt T.walks (walk_broken T) p → FirstRefusal T (refusal 10 p)
  by_open : {p : ℕ} → Till11 T → LowestAt T.walks (opens T) p → FirstRefusal T (refusal 11 p)

-- ---- the order of events

module _ (T : Tables) (h : CountsUnbroken T) (up : ℕ → ℕ) (rise : (a b : ℕ) → a < b → up a < up b)
    (trips : ℕ → ℕ) (fit : (r j : ℕ) → j < trips r → up j < m_of T r) where
  abbrev number : ℕ → ℕ → ℕ → ℕ
  number r j i = event_of T r (up j) i

  across : (r s j i k l : ℕ) → r < s → s < T.routes → j < trips r → i < n_of T r → number r j i < number s k l
  unfolding event_of events_to
  across r s j i k l lt b lj li =
      let a = (routes_right T h r (omega arith)).first_event_is in
      let d = (routes_right T h s b).first_event_is in
      omega (arith, cell_in (n_of T r) (m_of T r) (up j) i (fit r j lj) li, sum_below_at s r (λ q. n_of T q * m_of T q) lt)

  later_trip : (r j k i l : ℕ) → j < k → i < n_of T r → number r j i < number r k l
  unfolding event_of
  later_trip r j k i l lt li = omega (arith, digits_lt (rise j k lt) li)

  later_position : (r j i l : ℕ) → i < l → number r j i < number r j l
  unfolding event_of
  later_position r j i l lt = omega arith

  module _ (broken : ℕ → ℕ → ℕ → Bool) where
    abbrev at_position : ℕ → ℕ → ℕ → Option ℕ
    at_position r j i = given (broken r j i) (Some (number r j i))

    abbrev at_trip : ℕ → ℕ → Option ℕ
    at_trip r j = first_found (n_of T r) (at_position r j)

    abbrev at_route : ℕ → Option ℕ
    at_route r = first_found (trips r) (at_trip r)

    event_hit : (e : ℕ) → first_found T.routes at_route ≡ Some e → LowestEvent T trips broken number e
    event_hit e q =
        let x = first_found_hit T.routes at_route e q in
        let y = first_found_hit (trips x.at) (at_trip x.at) e x.is in
        let z = first_found_hit (n_of T x.at) (at_position x.at y.at) e y.is in
        let g = given_some (broken x.at y.at z.at) _ z.is in
        let n : number x.at y.at z.at ≡ e = some_same g.1 in
        let xr : x.at < T.routes = x.below in
        record {
          route = x.at;
          trip = y.at;
          position = z.at;
          route< = x.below;
          trip< = y.below;
          position< = z.below;
          is = n;
          broken_there = g.0;
          none_lower = λ r j i lr lj li l. by_lt r x.at
              (λ k. given_nothing (broken r j i) (number r j i)
              (first_found_never (n_of T r) (at_position r j) (first_found_never (trips r) (at_trip r) (x.none_before r k) j lj) i li))
              (λ k. by_lt x.at r
              (λ m. absurd (omega (arith, across x.at r y.at z.at j i m lr y.below z.below)))
              (λ m. let same : r ≡ x.at = omega arith in
              in_route x.at y.at z.at e n y.none_before z.none_before z.below r j i same li l));
        }
      where
        -- within one route
        in_route : (r j i e : ℕ) → number r j i ≡ e
            → ((k : ℕ) → k < j → at_trip r k ≡ None) → ((k : ℕ) → k < i → at_position r j k ≡ None) → i < n_of T r
            → (s k l : ℕ) → s ≡ r → l < n_of T s → number s k l < e → broken s k l ≡ false
        in_route r j i e n before lower li s k l same ll lt =
            rw same (go (rw same at ll) (rw same at lt))
          where
            go : l < n_of T r → number r k l < e → broken r k l ≡ false
            go b m =
                by_lt k j
                (λ q. given_nothing (broken r k l) (number r k l) (first_found_never (n_of T r) (at_position r k) (before k q) l b))
                (λ q. by_lt j k
                (λ u. absurd (omega (arith, later_trip r j k i l u li)))
                (λ u. let same-trip : k ≡ j = omega arith in
                rw same-trip (last (rw same-trip at m))))
              where
                last : number r j l < e → broken r j l ≡ false
                last m =
                    by_lt l i
                    (λ q. given_nothing (broken r j l) (number r j l) (lower l q))
                    (λ q. by_lt i l
                    (λ u. absurd (omega (arith, later_position r j i l u)))
                    (λ u. let z : l ≡ i = omega arith in absurd (omega (arith, rw z at m))))

-- ---- one rule after the other

else_cases : {A : Type 0} (x y : Option A) {a : A} → or_else x y ≡ Some a → (x ≡ Some a) ⊎ ((x ≡ None) × (y ≡ Some a))
unfolding or_else
else_cases (Some b) y e = inl e
else_cases None y e = inr (refl, e)

refused_at : (number : ℕ) (x : Option ℕ) {a : Refusal} → refused_by number x ≡ Some a → (p : ℕ) × (x ≡ Some p) × (refusal number p ≡ a)
unfolding refused_by
refused_at number None e = absurd (some_none e refl)
refused_at number (Some p) e = (p, refl, some_same e)

-- a rule refuses at its place, or does not and the rules after it do
rule_cases : (number : ℕ) (x : Option ℕ) (y : Option Refusal) {a : Refusal} {C : Type 0} → or_else (refused_by number x) y ≡ Some a
    → ((p : ℕ) → x ≡ Some p → refusal number p ≡ a → C) → (x ≡ None → y ≡ Some a → C) → C
rule_cases number x y e here after =
    ⊎_elim
    (λ q. let r = refused_at number x q in here r.0 r.1 r.2)
    (λ q. after (refused_none number x q.0) q.1)
    (else_cases (refused_by number x) y e)

module _ (T : Tables) (a : Refusal) where
  -- the refusal's own place
  told : {p number : ℕ} → refusal number p ≡ a → FirstRefusal T (refusal number p) → FirstRefusal T a
  told q f = rw (← q) f

  by_counts : first_broken count_rules T ≡ Some a → FirstRefusal T a
  unfolding first_broken
  by_counts e =
      rule_cases 5 (given (heads_broken T) (Some 64)) _ e
      (λ p q r. let g = given_some (heads_broken T) (Some 64) q in
      told r (rw (← some_same g.1) (by_heads g.0)))
      (λ n e₂. rule_cases 5 (lowest_of T.routes (route_broken T)) None e₂
      (λ p q r. told r (by_route (given_nothing (heads_broken T) 64 n) (lowest_hit T.routes (route_broken T) p q)))
      (λ _ e₃. absurd (some_none e₃ refl)))

  time_place : CountsUnbroken T → (p : ℕ) → lowest_time T ≡ Some p → LowestTime T p
  unfolding lowest_time
  time_place h p q = event_hit T h (λ j. j) (λ _ _ l. l) (m_of T) (λ _ _ l. l) (λ r j i. time_broken (route_of T r) j i) p q

  overtaken_place : CountsUnbroken T → (p : ℕ) → lowest_overtaken T ≡ Some p → LowestOvertaken T p
  unfolding lowest_overtaken
  overtaken_place h p q =
      event_hit T h (λ j. j + 1) (λ _ _ l. omega arith) (λ r. m_of T r - 1) (λ _ _ l. omega arith) (λ r j i. overtakes (route_of T r) j i) p q

  by_whole : CountsUnbroken T → first_broken whole_rules T ≡ Some a → FirstRefusal T a
  unfolding first_broken
  by_whole h e =
      rule_cases 7 (lowest_of (positions_to T T.routes) (stop_broken T)) _ e
      (λ p q r. told r (by_stop h (lowest_hit (positions_to T T.routes) (stop_broken T) p q)))
      (λ n₇ e₈. let t₈ : Till8 T = record { counts = h; stops = n₇ } in
      rule_cases 8 (lowest_time T) _ e₈
      (λ p q r. told r (by_time t₈ (time_place h p q)))
      (λ n₈ e₉. let t₉ : Till9 T = record { before = t₈; times = n₈ } in
      rule_cases 9 (lowest_overtaken T) _ e₉
      (λ p q r. told r (by_overtaken t₉ (overtaken_place h p q)))
      (λ n₉ e₁₀. let t₁₀ : Till10 T = record { before = t₉; overtaken = n₉ } in
      rule_cases 10 (lowest_of T.walks (walk_broken T)) _ e₁₀
      (λ p q r. told r (by_walk t₁₀ (lowest_hit T.walks (walk_broken T) p q)))
      (λ n₁₀ e₁₁. rule_cases 11 (lowest_of T.walks (opens T)) None e₁₁
      (λ p q r. told r (by_open (record { before = t₁₀; walks = n₁₀ }) (lowest_hit T.walks (opens T) p q)))
      (λ _ e₁₂. absurd (some_none e₁₂ refl))))))

  -- "It is given exactly when its reason holds and none earlier in the order does", "each at its lowest place"
  pub lowest_place : fault_of T ≡ Some a → FirstRefusal T a
  unfolding fault_of
  lowest_place e =
      ⊎_elim by_counts (λ q. by_whole (counts_unbroken T q.0) q.1) (else_cases (first_broken count_rules T) (first_broken whole_rules T) e)
