-- What a walk through all records that is well tells: the counts and lengths of the timetable that was read are right, before 7 to 11 are looked at.
use mathlib.Core.Path.{◌≡◌, refl, sym, ap, ◌∙◌, subst}
use mathlib.Core.List.{List, [], ◌∷◌, ◌++◌}
use Rattle.std.specs.Prelude.{None}
use Prim.Native.Nat.{ℕ, zero, suc, ◌+◌, ◌*◌, ◌-◌, ◌<◌}
use native.Mathlib.Omega.{arith}
use lib.ListN.{length, length-append}
use Rattle.laws.specs.Below.{iterate}
use Rattle.laws.specs.Fields.{byte, two}
use Rattle.paper.specs.Timetable.{Tables}
use Rattle.paper.specs.Rules.{first_broken, count_rules}
use Rattle.paper.specs.Reading.{Routes, next_route, no_routes, Walks, next_walk, Whole, ended, records_of, whole_of, tables_in}
use Rattle.paper.proofs.Written.{Counts}
use Rattle.paper.proofs.FeedRecords.{walk_good, walk_before}
use Rattle.paper.proofs.FeedTrips.{front_same}
use Rattle.paper.proofs.FeedRoutes.{Upto, upto}
use Rattle.paper.proofs.Checks.{counts_none, counts_of}
use Rattle.paper.specs.Demands.{Exact}
use Rattle.paper.proofs.HeadRead.{head_counts, head_well, whole_records, last_well}

-- right counts are refused by no rule of 5
pub counts_unbroken : (T : Tables) → Counts T → first_broken count_rules T ≡ None
counts_unbroken T c = counts_none T (counts_of T c)

-- ---- the walks: three elements each

walks_long : (f : List ℕ) (e : ℕ) (w : Walks) (k : ℕ) → (iterate k (next_walk f e) w).bad ≡ 0
    → (w.bad ≡ 0) × (length (iterate k (next_walk f e) w).t5 ≡ length w.t5 + 3 * k)
unfolding iterate
walks_long f e w zero h = (h, omega arith)
walks_long f e w (suc k) h =
    let v : Walks = iterate k (next_walk f e) w in
    let b = walk_before f e v h in
    let i = walks_long f e w k b.0 in
    let x : List ℕ = byte f (v.at + 2) ∷ byte f (v.at + 3) ∷ two f (v.at + 4) ∷ [] in
    let g : (next_walk f e v).t5 ≡ v.t5 ++ x = ap (λ (z : Walks). z.t5) (walk_good f e v b.0 b.1) in
    (i.0, omega (arith, ap length g, length-append v.t5 x, i.1))

-- ---- all of it

pub record Right (T : Tables) : Type 0 where
  pub counts : Counts T
  pub exact : Exact T

pub well_read : (f : List ℕ) → ((i : ℕ) → byte f i < 256) → (whole_of f).bad ≡ 0 → Right (tables_in f)
unfolding tables_in records_of
well_read f B h =
    let hb = head_well f h in
    let head = head_counts f hb in
    let w = whole_records f hb in
    let e : ℕ = length f - 4 in
    let R : Routes = iterate (byte f 4) (next_route f e) no_routes in
    let W₀ : Walks = record { bad = R.bad; at = R.at; t5 = [] } in
    let W : Walks = iterate (two f 5) (next_walk f e) W₀ in
    let b : (records_of f (byte f 4) (two f 5)).bad ≡ 0 = sym (ap (λ (x : Whole). x.bad) w) ∙ h in
    let v = walks_long f e W₀ (two f 5) (last_well W.bad (ended f W.at) b).0 in
    let T : Tables = record { stops = byte f 3 + 1; routes = byte f 4; walks = two f 5; t1 = R.t1; t2 = R.t2; t3 = R.t3; t4 = R.t4; t5 = W.t5 } in
    let same : T ≡ tables_in f
    = λ i. record { stops = byte f 3 + 1; routes = byte f 4; walks = two f 5; t1 = (sym w i).t1; t2 = (sym w i).t2; t3 = (sym w i).t3; t4 = (sym w i).t4; t5 = (sym w i).t5 } in
    let up : Upto f T (byte f 4) R
    = upto f B e (omega arith) T (byte f 4) v.0
    (record { f1 = front_same _ _ refl; f2 = front_same _ _ refl; f3 = front_same _ _ refl; f4 = front_same _ _ refl }) in
    subst Right same
    (record {
      counts = record {
        stops≥ = omega arith;
        stops≤ = omega (arith, B 3);
        routes≤ = head.0;
        walks≤ = head.1;
        route = up.route;
        trips≤ = up.trips≤;
        events≤ = up.events≤;
      };
      exact = record {
        routes = up.n1;
        positions = up.n2;
        arrivals = up.n3;
        departures = up.n4;
        walks = omega (arith, v.1);
      };
    })
