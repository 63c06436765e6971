-- What an acceptance tells: the feed is the feed of the timetable that was read, whose counts, lengths and rules are right.
use mathlib.Core.Path.{◌≡◌, refl, sym, ap, ◌∙◌, subst}
use mathlib.Core.List.{List, [], ◌∷◌}
use mathlib.Core.Bool.{Bool, true, false, cond, ◌&&◌}
use Rattle.std.specs.Prelude.{Option, Some, None}
use Prim.Native.Nat.{ℕ, ◌+◌, ◌*◌, ◌-◌, ◌≤◌, ◌<◌}
use native.Mathlib.Omega.{arith}
use lib.ListN.{length, take, length-append, get_or-eq_default}
use lib.Seq.{take_at, take-length}
use lib.Dec.{eqb, leb}
use borrow.Author.Tests.{eqb-true, leb-true}
use Rattle.laws.specs.Below.{iterate}
use Rattle.laws.specs.Lists.{pieces}
use Rattle.laws.specs.Fields.{byte, two}
use Rattle.laws.proofs.Tests.{by_test, by_lt, and_both}
use Rattle.laws.proofs.Lists.{length-pieces}
use Rattle.laws.proofs.Fields.{Has, has_nil, has_cons, has_append, has_at}
use Rattle.paper.specs.Timetable.{Tables}
use Rattle.paper.specs.Rules.{Refusal, first_broken, whole_rules}
use Rattle.paper.specs.Feed.{routes_bytes, walks_bytes, size_of, head_bytes, summed, fletcher_of, feed_of}
use Rattle.paper.specs.Reading.{Untouched, Zeroed, Accepted, marked, Routes, next_route, no_routes, Walks, next_walk, Whole, ended, records_of, head_bad, whole_of, tables_in, length_right, sum_right, judged, body_of, read_of}
use Rattle.paper.proofs.Written.{Counts, length_walks, length-summed}
use Rattle.paper.proofs.FeedTrips.{front_same, has_two_then, has_marked}
use Rattle.paper.proofs.FeedRoutes.{Fronts, Upto, upto}
use Rattle.paper.proofs.FeedWalks.{walks_well, walk_of, no_walks, walks_closed, has_walks}
use Rattle.paper.specs.Demands.{Exact, Bytes}
use Rattle.paper.proofs.HeadRead.{head_well, whole_records, last_well}

pub bytes_all : (f : List ℕ) → Bytes f → (i : ℕ) → byte f i < 256
bytes_all f B i = by_lt i (length f) (λ l. B i l) (λ l. rw (get_or-eq_default f 0 l) (omega arith))

-- ---- the tests that an accepted feed has passed

pub record Passed (f : List ℕ) (T : Tables) : Type 0 where
  pub size : length_right f ≡ true
  pub sum : sum_right f ≡ true
  pub well : (whole_of f).bad ≡ 0
  pub is : tables_in f ≡ T
  pub rules : first_broken whole_rules T ≡ None

judged_inv : (S T : Tables) (x : Option Refusal) → judged S x ≡ Accepted T → (S ≡ T) × (x ≡ None)
unfolding judged
judged_inv S T None h = (cc, refl)
judged_inv S T (Some x) h = let z : ◌≡◌ {A = ℕ} 0 1 = cc in absurd (omega arith)

pub passed : (f : List ℕ) (T : Tables) → read_of f ≡ Accepted T → Passed f T
unfolding read_of body_of
passed f T h =
    by_test (length_right f)
    (λ p. by_test (sum_right f)
    (λ q. by_test (eqb (whole_of f).bad 0)
    (λ r. let j = judged_inv (tables_in f) T (first_broken whole_rules (tables_in f)) (simp (p, q, r) at h) in
    record { size = p; sum = q; well = eqb-true (whole_of f).bad 0 r; is = j.0; rules = rw j.0 at j.1 })
    (λ r. let k : Zeroed (whole_of f).bad (whole_of f).at ≡ Accepted T = simp (p, q, r) at h in
    let z : ◌≡◌ {A = ℕ} 0 1 = cc in
    absurd (omega arith)))
    (λ q. let k : Untouched 2 (length f - 2) ≡ Accepted T = simp (p, q) at h in
    let z : ◌≡◌ {A = ℕ} 0 1 = cc in
    absurd (omega arith)))
    (λ p. let k : Untouched 1 0 ≡ Accepted T = simp p at h in
    let z : ◌≡◌ {A = ℕ} 0 1 = cc in
    absurd (omega arith))

-- ---- what each test says

record Head (f : List ℕ) : Type 0 where
  one : byte f 0 ≡ 0x54
  other : byte f 1 ≡ 0x48
  edition : byte f 2 ≡ 1
  routes≤ : byte f 4 ≤ 64
  walks≤ : two f 5 ≤ 512

head_marks : (x y z : Bool) → ◌≡◌ {A = ℕ} (cond x (cond y (cond z 0 5) 4) 3) 0 → (x ≡ true) × (y ≡ true) × (z ≡ true)
head_marks true true true h = (refl, refl, refl)
head_marks true true false h = absurd (omega arith)
head_marks true false z h = absurd (omega arith)
head_marks false y z h = absurd (omega arith)

head_says : (f : List ℕ) → head_bad f ≡ 0 → Head f
unfolding head_bad
head_says f h =
    let t = head_marks (eqb (byte f 0) 0x54 && eqb (byte f 1) 0x48) (eqb (byte f 2) 1) (leb (byte f 4) 64 && leb (two f 5) 512) h in
    let a = and_both (eqb (byte f 0) 0x54) _ t.0 in
    let c = and_both (leb (byte f 4) 64) _ t.2 in
    record {
      one = eqb-true (byte f 0) 0x54 a.0;
      other = eqb-true (byte f 1) 0x48 a.1;
      edition = eqb-true (byte f 2) 1 t.1;
      routes≤ = leb-true (byte f 4) 64 c.0;
      walks≤ = leb-true (two f 5) 512 c.1;
    }

pub length_says : (f : List ℕ) → length_right f ≡ true → (13 ≤ length f) × (two f 7 ≡ length f)
unfolding length_right
length_says f h =
    let a = and_both (leb 13 (length f)) _ h in
    let b = and_both (leb (length f) 17869) _ a.1 in
    (leb-true 13 (length f) a.0, eqb-true (two f 7) (length f) b.1)

pub sum_says : (f : List ℕ) → sum_right f ≡ true
    → (byte f (length f - 2) ≡ (fletcher_of (take (length f - 2) f)).first) × (byte f (length f - 1) ≡ (fletcher_of (take (length f - 2) f)).second)
unfolding sum_right
sum_says f h =
    let a = and_both (eqb (byte f (length f - 2)) (fletcher_of (take (length f - 2) f)).first) _ h in
    (eqb-true _ _ a.0, eqb-true _ _ a.1)

ended_says : (f : List ℕ) (at : ℕ) → ended f at ≡ true → (at + 4 ≡ length f) × (marked f (length f) at 4 0x45 0x44 ≡ true)
unfolding ended
ended_says f at h = let a = and_both (eqb (at + 4) (length f)) _ h in (eqb-true (at + 4) (length f) a.0, a.1)

-- what stands at the front and is as long as the list is the list
has_all : (f xs : List ℕ) → Has f 0 xs → length xs ≡ length f → xs ≡ f
has_all f xs h l = sym (take_at xs h.rest (length f) l) ∙ ap (take (length f)) (sym h.is) ∙ take-length f

-- ---- the whole feed

module _ (f : List ℕ) (B : (i : ℕ) → byte f i < 256) (size : length_right f ≡ true) (sum : sum_right f ≡ true) (head : Head f)
    (T : Tables) (ts : T.stops ≡ byte f 3 + 1) (tr : T.routes ≡ byte f 4) (tw : T.walks ≡ two f 5)
    (R : Routes) (eR : R ≡ iterate T.routes (next_route f (length f - 4)) no_routes) (bR : R.bad ≡ 0)
    (t1 : T.t1 ≡ R.t1) (t2 : T.t2 ≡ R.t2) (t3 : T.t3 ≡ R.t3) (t4 : T.t4 ≡ R.t4)
    (bW : (iterate T.walks (next_walk f (length f - 4)) (no_walks f (length f - 4) R.at)).bad ≡ 0)
    (t5 : T.t5 ≡ pieces T.walks (walk_of f (length f - 4) R.at))
    (end : ended f (R.at + 6 * T.walks) ≡ true) where
  up : Upto f T T.routes R
  up =
      subst (λ (r : Routes). Upto f T T.routes r) (sym eR)
      (upto f B (length f - 4) (omega arith) T T.routes (rw eR at bR)
      (subst (λ (r : Routes). Fronts r T) eR
      (record { f1 = front_same _ _ t1; f2 = front_same _ _ t2; f3 = front_same _ _ t3; f4 = front_same _ _ t4 })))

  counts_right : Counts T
  counts_right =
      record {
        stops≥ = omega (arith, ts);
        stops≤ = omega (arith, ts, B 3);
        routes≤ = omega (arith, tr, head.routes≤);
        walks≤ = omega (arith, tw, head.walks≤);
        route = up.route;
        trips≤ = up.trips≤;
        events≤ = up.events≤;
      }

  lengths_right : Exact T
  lengths_right =
      record {
        routes = ap length t1 ∙ up.n1;
        positions = ap length t2 ∙ up.n2;
        arrivals = ap length t3 ∙ up.n3;
        departures = ap length t4 ∙ up.n4;
        walks = omega (arith, ap length t5, length-pieces T.walks (walk_of f (length f - 4) R.at) 3 (λ i l. refl));
      }

  size_of_lem : size_of T ≡ two f 7
  unfolding size_of
  size_of_lem = omega (arith, up.at, (ended_says f _ end).0, (length_says f size).1, length_walks T T.walks)

  has_head : Has f 0 (head_bytes T)
  has_head =
      let l = (length_says f size).0 in
      let s : byte f 3 ≡ T.stops - 1 = omega (arith, ts) in
      has_cons f 0 0x54 _ (omega arith) head.one
      (has_cons f 1 0x48 _ (omega arith) head.other
      (has_cons f 2 1 _ (omega arith) head.edition
      (has_cons f 3 _ _ (omega arith) s
      (has_cons f 4 _ _ (omega arith) (sym tr)
      (has_two_then f B 5 _ _ (omega arith) tw
      (has_two_then f B 7 _ [] (omega arith) size_of_lem (has_nil f 9)))))))

  has_end : Has f (R.at + 6 * T.walks) (0x45 ∷ 0x44 ∷ [])
  has_end = has_marked f B (length f) _ 4 0x45 0x44 [] (omega arith) (omega arith) (ended_says f _ end).1 (has_nil f _)

  has_summed : Has f 0 (summed T)
  unfolding summed
  has_summed =
      has_append f 0 (head_bytes T) _ has_head
      (has_append f 9 (routes_bytes T T.routes) _ up.has
      (has_at f R.at _ _ up.at
      (has_append f R.at (walks_bytes T T.walks) (0x45 ∷ 0x44 ∷ [])
      (has_walks f (length f - 4) R.at B (omega arith) T T.walks bW t5)
      (has_at f _ _ _ (ap (λ (n : ℕ). R.at + n) (sym (length_walks T T.walks))) has_end))))

  summed_long : length (summed T) ≡ length f - 2
  summed_long = omega (arith, length-summed T, length_walks T T.walks, up.at, (ended_says f _ end).0)

  feed_is : feed_of T ≡ f
  unfolding feed_of
  feed_is =
      let l = (length_says f size).0 in
      let s = sum_says f sum in
      let sums : List ℕ = (fletcher_of (summed T)).first ∷ (fletcher_of (summed T)).second ∷ [] in
      let t : take (length f - 2) f ≡ summed T = ap (take (length f - 2)) has_summed.is ∙ take_at (summed T) has_summed.rest (length f - 2) summed_long in
      let x : byte f (length f - 2) ≡ (fletcher_of (summed T)).first = s.0 ∙ ap (λ (r : List ℕ). (fletcher_of r).first) t in
      let y : byte f (length f - 1) ≡ (fletcher_of (summed T)).second = s.1 ∙ ap (λ (r : List ℕ). (fletcher_of r).second) t in
      let k : length f - 2 ≡ 0 + length (summed T) = omega (arith, summed_long) in
      let h : Has f 0 (feed_of T)
      = has_append f 0 (summed T) sums has_summed
      (has_at f _ _ _ k
      (has_cons f (length f - 2) _ _ (omega arith) x
      (has_at f (length f - 1) _ _ (omega arith) (has_cons f (length f - 1) _ [] (omega arith) y (has_nil f _))))) in
      has_all f (feed_of T) h (omega (arith, length-append (summed T) sums, summed_long))

-- ---- from the answer alone

-- what an acceptance of f as T tells
pub record Told (f : List ℕ) (T : Tables) : Type 0 where
  pub feed : feed_of T ≡ f
  pub counts : Counts T
  pub exact : Exact T
  pub rules : first_broken whole_rules T ≡ None

-- an accepted list of bytes is the feed of the timetable that was read
pub accepted : (f : List ℕ) (T : Tables) → Bytes f → read_of f ≡ Accepted T → Told f T
unfolding tables_in records_of
accepted f T bytes h =
    let B = bytes_all f bytes in
    let P = passed f T h in
    let hb = head_well f P.well in
    let head = head_says f hb in
    let w = whole_records f hb in
    let e : ℕ = length f - 4 in
    let R : Routes = iterate (byte f 4) (next_route f e) no_routes in
    let W : Walks = iterate (two f 5) (next_walk f e) (record { bad = R.bad; at = R.at; t5 = [] }) in
    let b : (records_of f (byte f 4) (two f 5)).bad ≡ 0 = sym (ap (λ (x : Whole). x.bad) w) ∙ P.well in
    let l = last_well W.bad (ended f W.at) b in
    let bR : R.bad ≡ 0 = walks_well f e (record { bad = R.bad; at = R.at; t5 = [] }) (two f 5) l.0 in
    let E : ◌≡◌ {A = Walks} (record { bad = R.bad; at = R.at; t5 = [] }) (no_walks f e R.at) = λ i. record { bad = bR i; at = R.at; t5 = [] } in
    let W' : W ≡ iterate (two f 5) (next_walk f e) (no_walks f e R.at) = ap (iterate (two f 5) (next_walk f e)) E in
    let bW : (iterate (two f 5) (next_walk f e) (no_walks f e R.at)).bad ≡ 0 = rw W' at l.0 in
    let C = W' ∙ walks_closed f e R.at (two f 5) bW in
    let end : ended f (R.at + 6 * two f 5) ≡ true = subst (λ (x : Walks). ended f x.at ≡ true) C l.1 in
    let T₀ : Tables = record { stops = byte f 3 + 1; routes = byte f 4; walks = two f 5; t1 = R.t1; t2 = R.t2; t3 = R.t3; t4 = R.t4; t5 = W.t5 } in
    let t5 : T₀.t5 ≡ pieces (two f 5) (walk_of f e R.at) = ap (λ (x : Walks). x.t5) C in
    let same : T₀ ≡ T = (λ i. record { stops = byte f 3 + 1; routes = byte f 4; walks = two f 5; t1 = (sym w i).t1; t2 = (sym w i).t2; t3 = (sym w i).t3; t4 = (sym w i).t4; t5 = (sym w i).t5 }) ∙ P.is in
    record {
      feed = rw same at (feed_is f B P.size P.sum head T₀ refl refl refl R refl bR refl refl refl refl bW t5 end);
      counts = subst Counts same (counts_right f B P.size P.sum head T₀ refl refl refl R refl bR refl refl refl refl bW t5 end);
      exact = subst Exact same (lengths_right f B P.size P.sum head T₀ refl refl refl R refl bR refl refl refl refl bW t5 end);
      rules = P.rules;
    }
