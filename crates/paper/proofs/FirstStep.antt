-- What first_step finds is a last step that comes before all others by the tie rule; it finds nothing only where there is none.
use mathlib.Core.Path.{◌≡◌, refl, sym, ap, ap₂, ◌∙◌, subst}
use mathlib.Core.Logic.{◌≢◌}
use mathlib.Core.Bool.{Bool, true, ◌&&◌}
use mathlib.Core.List.{List, [], ◌∷◌}
use Rattle.std.specs.Prelude.{Option, Some, None}
use Prim.Native.Nat.{ℕ, ◌+◌, ◌≤◌, ◌<◌}
use native.Mathlib.Nat.{le_trans, le_of_eq, suc-ne-zero}
use lib.ListN.{get_or}
use native.Mathlib.Omega.{arith}
use borrow.Author.Tests.{eqb-true, eq-eqb, ltb-true, lt-ltb}
use lib.Dec.{eqb, lit<}
use Rattle.laws.specs.Below.{mark, given}
use Rattle.laws.proofs.Tests.{by_lt, and_both, and_true}
use Rattle.laws.proofs.Below.{first_below_of, first_below_hit}
use Rattle.laws.proofs.Found.{FirstAt, some_none, some_same, or_else_none, or_else_some, given_true, given_some, first_found_never, first_found_hit}
use Rattle.paper.specs.Timetable.{Tables, route_of, stop_at, arrive_at, walk_from, walk_to, walk_seconds}
use Rattle.paper.specs.Rows.{label, boards}
use Rattle.paper.specs.Journey.{Ride, Walk, Step, ride, ride_walk}
use Rattle.paper.specs.Tie.{First, boarded_first, left_first, trip_first, route_first, walk_between, walked_first, first_step, board_stop, leg_of, key_of, NotAfter, equal, sooner, further}
use Rattle.paper.specs.declared.Leg.{Leg}
use Rattle.paper.proofs.Usable.{Usable}
use Rattle.paper.proofs.Rides.{boards_of, boards_is}
use Rattle.paper.proofs.Steps.{ride_to_lem, Stepped}

not_after : {x y : ℕ} {xs ys : List ℕ} → x ≤ y → (x ≡ y → NotAfter xs ys) → NotAfter (x ∷ xs) (y ∷ ys)
not_after {x} {y} l h = by_lt x y (λ m. sooner m) (λ m. let e : x ≡ y = omega arith in further e (h e))

-- nothing is found before the first place
not_before_lem : {A : Type 0} {k : ℕ} {f : ℕ → Option A} {a : A} (x : FirstAt k f a) (i : ℕ) → (f i ≡ None → ⊥) → x.at ≤ i
not_before_lem x i h = by_lt i x.at (λ l. absurd (h (x.none_before i l))) (λ l. l)

-- a ride of trip j of route r from position i to l, boarded where the row permits it, comes to stop s so that c seconds later it is v
pub record Fits (T : Tables) (row : List ℕ) (s c v r j l i : ℕ) : Type 0 where
  pub route< : r < T.routes
  pub trip< : j < (route_of T r).m
  pub leave< : l < (route_of T r).n
  pub later : i < l
  pub to : stop_at (route_of T r) l ≡ s
  pub right : arrive_at (route_of T r) j l + c ≡ v
  pub boarded : boards (route_of T r) row j i ≡ true

fits_of : {T : Tables} {row : List ℕ} {b s t : ℕ} (x : Ride T b (label row b) s t) (c v : ℕ) → label row b ≢ mark → t + c ≡ v →
    Fits T row s c v x.route x.trip x.leave x.board
fits_of {T} {row} {b} {s} {t} x c v m e =
    let R = route_of T x.route in
    let at : label row (stop_at R x.board) ≡ label row b = ap (label row) x.from in
    let a : arrive_at R x.trip x.leave ≡ t = x.arrives in
    record {
      route< = x.route<;
      trip< = x.trip<;
      leave< = x.leave<;
      later = x.later;
      to = x.to;
      right = omega arith;
      boarded = boards_of R row x.trip x.board (λ z. m (sym at ∙ z)) (le_trans (le_of_eq at) x.catches);
    }

module _ (T : Tables) (row : List ℕ) (s c v : ℕ) (after : Option ℕ) where
  -- such a ride shows at each level of the search
  module _ {r j l i : ℕ} (h : Fits T row s c v r j l i) where
    board_shows : (g : Leg) → given (boards (route_of T r) row j i) (Some g) ≡ None → ⊥
    board_shows g e = some_none refl (sym (given_true (Some g) h.boarded) ∙ e)

    leave_shows : given (eqb (stop_at (route_of T r) l) s && eqb (arrive_at (route_of T r) j l + c) v) (boarded_first T row s c v after r j l) ≡ None → ⊥
    unfolding boarded_first
    leave_shows e =
        let t = and_true _ _ (eq-eqb (stop_at (route_of T r) l) s h.to) (eq-eqb (arrive_at (route_of T r) j l + c) v h.right) in
        board_shows _ (first_found_never l _ (sym (given_true _ t) ∙ e) i h.later)

    trip_shows : left_first T row s c v after r j ≡ None → ⊥
    unfolding left_first
    trip_shows e = leave_shows (first_found_never (route_of T r).n _ e l h.leave<)

    route_shows : trip_first T row s c v after r ≡ None → ⊥
    unfolding trip_first
    route_shows e = trip_shows (first_found_never (route_of T r).m _ e j h.trip<)

    shows : route_first T row s c v after ≡ None → ⊥
    unfolding route_first
    shows e = route_shows (first_found_never T.routes _ e r h.route<)

  -- what the search finds
  record Found (g : Leg) : Type 0 where
    fits : Fits T row s c v g.route g.trip g.leave g.board
    after≡ : g.after ≡ after
    first : {r j l i : ℕ} → Fits T row s c v r j l i → NotAfter (g.route ∷ g.trip ∷ g.leave ∷ g.board ∷ []) (r ∷ j ∷ l ∷ i ∷ [])

  found : (g : Leg) → route_first T row s c v after ≡ Some g → Found g
  unfolding route_first trip_first left_first boarded_first
  found g e =
      let fr = first_found_hit T.routes _ g e in
      let r₀ = fr.at in
      let fj = first_found_hit (route_of T r₀).m _ g fr.is in
      let j₀ = fj.at in
      let fl = first_found_hit (route_of T r₀).n _ g fj.is in
      let l₀ = fl.at in
      let pl = given_some _ _ fl.is in
      let ends = and_both _ _ pl.0 in
      let fi = first_found_hit l₀ _ g pl.1 in
      let i₀ = fi.at in
      let pi = given_some _ _ fi.is in
      let at : Found (record { route = r₀; trip = j₀; board = i₀; leave = l₀; after = after }) = record {
        fits = record {
          route< = fr.below;
          trip< = fj.below;
          leave< = fl.below;
          later = fi.below;
          to = eqb-true _ _ ends.0;
          right = eqb-true _ _ ends.1;
          boarded = pi.0;
        };
        after≡ = refl;
        first = λ {r} {j} {l} {i} h.
            not_after (not_before_lem fr r (route_shows h)) λ er.
            let h₁ : Fits T row s c v r₀ j l i = rw er h in
            not_after (not_before_lem fj j (trip_shows h₁)) λ ej.
            let h₂ : Fits T row s c v r₀ j₀ l i = rw ej h₁ in
            not_after (not_before_lem fl l (leave_shows h₂)) λ el.
            let h₃ : Fits T row s c v r₀ j₀ l₀ i = rw el h₂ in
            not_after (not_before_lem fi i (board_shows h₃ _)) λ _. equal;
      } in
      subst Found (some_same pi.1) at

-- the ride that was found
ride_of : {T : Tables} {row : List ℕ} {s c v : ℕ} {after : Option ℕ} {g : Leg} → Found T row s c v after g → (t : ℕ) →
    arrive_at (route_of T g.route) g.trip g.leave ≡ t → Ride T (board_stop T g) (label row (board_stop T g)) s t
unfolding board_stop
ride_of {T} {row} {g} f t e = record {
  route = g.route;
  trip = g.trip;
  board = g.board;
  leave = g.leave;
  route< = f.fits.route<;
  trip< = f.fits.trip<;
  later = f.fits.later;
  leave< = f.fits.leave<;
  from = refl;
  catches = (boards_is (route_of T g.route) row g.trip g.board f.fits.boarded).1;
  to = f.fits.to;
  arrives = e;
}

found_reached : {T : Tables} {row : List ℕ} {s c v : ℕ} {after : Option ℕ} {g : Leg} → Found T row s c v after g → label row (board_stop T g) ≢ mark
unfolding board_stop
found_reached {T} {row} {g} f = (boards_is (route_of T g.route) row g.trip g.board f.fits.boarded).0

-- ---- the walk between two stops

abbrev joins : Tables → ℕ → ℕ → ℕ → Bool
joins T s p w = eqb (walk_from T w) s && eqb (walk_to T w) p

walk_between_ends : (T : Tables) (s p : ℕ) → walk_between T s p < T.walks → (walk_from T (walk_between T s p) ≡ s) × (walk_to T (walk_between T s p) ≡ p)
unfolding walk_between
walk_between_ends T s p h =
    let x = and_both _ _ (first_below_hit T.walks (joins T s p) h) in
    (eqb-true _ _ x.0, eqb-true _ _ x.1)

walk_between_le : (T : Tables) {s t p u : ℕ} (x : Walk T s t p u) → walk_between T s p ≤ x.walk
unfolding walk_between
walk_between_le T {s} {p} x = first_below_of T.walks (joins T s p) x.walk x.walk< (and_true _ _ (eq-eqb _ _ x.from) (eq-eqb _ _ x.to))

-- there is one
pub walk_between_is : (T : Tables) → Usable T → {s t p u : ℕ} (x : Walk T s t p u) → walk_between T s p ≡ x.walk
walk_between_is T us {s} {p} x =
    let l = walk_between_le T x in
    let m = x.walk< in
    let e = walk_between_ends T s p (omega arith) in
    us.walk_once (walk_between T s p) x.walk (omega arith) m (e.0 ∙ sym x.from) (e.1 ∙ sym x.to)

-- ---- the first last step

module _ (T : Tables) (us : Usable T) (row : List ℕ) (p v : ℕ) where
  -- where there is a last step, its search finds one
  ride_shows : {b : ℕ} → label row b ≢ mark → Ride T b (label row b) p v → route_first T row p 0 v None ≡ None → ⊥
  ride_shows m x = shows T row p 0 v None (fits_of x 0 v m (omega arith))

  walk_fits : {b s t : ℕ} → label row b ≢ mark → (x : Ride T b (label row b) s t) → Walk T s t p v →
      Fits T row s (walk_seconds T (walk_between T s p)) v x.route x.trip x.leave x.board
  walk_fits {t} m x w = fits_of x _ v m (ap (λ (n : ℕ). t + walk_seconds T n) (walk_between_is T us w) ∙ w.arrives)

  walk_shows : {b s t : ℕ} → label row b ≢ mark → Ride T b (label row b) s t → Walk T s t p v → walked_first T row p v s ≡ None → ⊥
  unfolding walked_first
  walk_shows {s} m x w e =
      let l = walk_between_is T us w in
      let k = w.walk< in
      shows T row s _ v (Some p) (walk_fits m x w) (sym (given_true _ (lt-ltb (walk_between T s p) T.walks (omega arith))) ∙ e)

  -- the first ride to p
  by_ride : (g : Leg) → Found T row p 0 v None g → First T row p v g
  unfolding leg_of key_of
  by_ride g f = record { reached = found_reached f; the_step = the_step; leg≡ = same; before_all = first }
    where
      the_step : Step T (board_stop T g) (label row (board_stop T g)) p v
      the_step = ride (ride_of f v (let e = f.fits.right in omega arith))

      same : leg_of the_step ≡ g
      same = unfold ride_of in (λ i. record { route = g.route; trip = g.trip; board = g.board; leave = g.leave; after = sym f.after≡ i })

      first : (b : ℕ) → label row b ≢ mark → (y : Step T b (label row b) p v) → NotAfter (key_of the_step) (key_of y)
      first b m (ride y) = unfold ride_of in (further refl (further refl (f.first (fits_of y 0 v m (omega arith)))))
      first b m (ride_walk y w) = sooner (lit< {m = 0} {n = 1} tt)

  -- the first ride and walk, where no ride alone will do
  by_walk : (g : Leg) → route_first T row p 0 v None ≡ None → (x : FirstAt T.stops (walked_first T row p v) g) → walk_between T x.at p < T.walks →
      Found T row x.at (walk_seconds T (walk_between T x.at p)) v (Some p) g → First T row p v g
  unfolding leg_of key_of
  by_walk g no-ride x w< f = record { reached = found_reached f; the_step = the_step; leg≡ = same; before_all = first }
    where
      s : ℕ
      s = x.at

      w : ℕ
      w = walk_between T s p

      arrived : ℕ
      arrived = arrive_at (route_of T g.route) g.trip g.leave

      the_walk : Walk T s arrived p v
      the_walk = let e = walk_between_ends T s p w< in record { walk = w; walk< = w<; from = e.0; to = e.1; arrives = f.fits.right }

      the_step : Step T (board_stop T g) (label row (board_stop T g)) p v
      the_step = ride_walk {s = s} {t = arrived} (ride_of f arrived refl) the_walk

      same : leg_of the_step ≡ g
      same = unfold ride_of in (λ i. record { route = g.route; trip = g.trip; board = g.board; leave = g.leave; after = sym f.after≡ i })

      first : (b : ℕ) → label row b ≢ mark → (y : Step T b (label row b) p v) → NotAfter (key_of the_step) (key_of y)
      first b m (ride y) = absurd (ride_shows m y no-ride)
      first b m (ride_walk {s = s'} y z) =
          unfold ride_of in
          (further refl
          (not_after (not_before_lem x s' (walk_shows m y z)) λ e.
          f.first (subst (λ (n : ℕ). Fits T row n (walk_seconds T (walk_between T n p)) v y.route y.trip y.leave y.board) (sym e) (walk_fits m y z))))

  -- what first_step finds is the tie rule's step
  pub first_of_lem : (g : Leg) → first_step T row p v ≡ Some g → First T row p v g
  unfolding first_step walked_first
  first_of_lem g e = go (route_first T row p 0 v None) refl
    where
      go : (o : Option Leg) → route_first T row p 0 v None ≡ o → First T row p v g
      go (Some k) h = by_ride g (found T row p 0 v None g (h ∙ (sym (or_else_some _ h) ∙ e)))
      go None h =
          let x = first_found_hit T.stops (walked_first T row p v) g (sym (or_else_none _ h) ∙ e) in
          let y = given_some _ _ x.is in
          by_walk g h x (ltb-true _ _ y.0) (found T row x.at _ v (Some p) g y.1)

  -- where it finds nothing there is no last step
  pub none_first : first_step T row p v ≡ None → Stepped T row p v → ⊥
  unfolding first_step
  none_first e x = go (route_first T row p 0 v None) refl x.step
    where
      go : (o : Option Leg) → route_first T row p 0 v None ≡ o → Step T x.b (label row x.b) p v → ⊥
      go (Some k) h y = some_none (or_else_some _ h) e
      go None h (ride y) = ride_shows x.reached y h
      go None h (ride_walk {s} y z) =
          walk_shows x.reached y z (first_found_never T.stops (walked_first T row p v) (sym (or_else_none _ h) ∙ e) s (ride_to_lem T us y))

  -- where there is a last step, it finds the first
  pub first_step_lem : Stepped T row p v → (g : Leg) × (first_step T row p v ≡ Some g) × First T row p v g
  first_step_lem x = go (first_step T row p v) refl
    where
      go : (o : Option Leg) → first_step T row p v ≡ o → (g : Leg) × (first_step T row p v ≡ Some g) × First T row p v g
      go (Some g) e = (g, e, first_of_lem g e)
      go None e = absurd (none_first e x)

-- ---- there is one first last step

-- two lists, neither after the other, are equal
pub not_after_antisym : {xs ys : List ℕ} → NotAfter xs ys → NotAfter ys xs → xs ≡ ys
not_after_antisym equal k = refl
not_after_antisym (sooner {x} {y} {xs} {ys} l) k = go k
  where
    go : NotAfter (y ∷ ys) (x ∷ xs) → x ∷ xs ≡ y ∷ ys
    go (sooner m) = absurd (omega arith)
    go (further e r) = absurd (omega arith)
not_after_antisym (further {x} {y} {xs} {ys} e h) k = go k (not_after_antisym h)
  where
    go : NotAfter (y ∷ ys) (x ∷ xs) → (NotAfter ys xs → xs ≡ ys) → x ∷ xs ≡ y ∷ ys
    go (sooner m) r = absurd (omega arith)
    go (further f t) r = ap₂ {C = List ℕ} (λ a l. a ∷ l) e (r t)

-- two last steps at p with one key are one leg
pub key_leg : {T : Tables} {b a d c p u : ℕ} (x : Step T b a p u) (y : Step T d c p u) → key_of x ≡ key_of y → leg_of x ≡ leg_of y
unfolding key_of leg_of
key_leg {p} (ride x) (ride y) e = λ i. record { route = get_or (e i) 2 0; trip = get_or (e i) 3 0; board = get_or (e i) 5 0; leave = get_or (e i) 4 0; after = None }
key_leg {p} (ride_walk x w) (ride_walk y z) e =
    λ i. record { route = get_or (e i) 2 0; trip = get_or (e i) 3 0; board = get_or (e i) 5 0; leave = get_or (e i) 4 0; after = Some p }
key_leg {p} (ride x) (ride_walk y z) e = absurd (suc-ne-zero 0 (sym (ap (λ (l : List ℕ). get_or l 0 0) e)))
key_leg {p} (ride_walk x w) (ride y) e = absurd (suc-ne-zero 0 (ap (λ (l : List ℕ). get_or l 0 0) e))

pub first_unique : (T : Tables) (row : List ℕ) (p v : ℕ) (g k : Leg) → First T row p v g → First T row p v k → g ≡ k
first_unique T row p v g k x y =
    sym x.leg≡
    ∙ key_leg x.the_step y.the_step
    (not_after_antisym (x.before_all (board_stop T k) y.reached y.the_step) (y.before_all (board_stop T g) x.reached x.the_step))
    ∙ y.leg≡
