-- The records judged by 7 to 11: the tables that were filled agree with the timetable that was read.
use mathlib.Core.Path.{◌≡◌, refl, sym, ap, ◌∙◌}
use mathlib.Core.List.{List}
use Prim.Native.Nat.{ℕ, ◌≤◌, ◌<◌}
use native.Mathlib.Omega.{arith}
use lib.ListN.{length, get_or}
use borrow.Author.Tests.{eq-eqb, ne_eqb}
use Rattle.std.specs.Prelude.{Option, Some, None, Ok, Err}
use Rattle.laws.specs.Fields.{byte}
use Rattle.laws.proofs.Lists.{length_over, get_d_over}
use Rattle.paper.specs.Timetable.{Tables}
use Rattle.paper.specs.Rules.{first_broken, whole_rules}
use Rattle.paper.specs.Reading.{whole_of, tables_in, judged, body_of}
use Rattle.paper.specs.Reply.{done, reading_of}
use Rattle.paper.specs.declared.Heads.{Heads}
use Rattle.paper.specs.declared.Refusal.{Refusal}
use Rattle.paper.specs.declared.Room.{Room}
use Rattle.paper.proofs.WellRead.{Right, well_read, counts_unbroken}
use Rattle.paper.proofs.Agree.{Same, Agree, agree_counts, agree_whole}
use Rattle.timetable.specs.Needed.{CountsRight}
use Rattle.timetable.proofs.Faults.{done_none, done_some}
use Rattle.records.specs.State.{Fills, Filled, Ended, Full, BodyRoom}
use Rattle.feed.specs.State.{heads_of, lists, tables_of, Judged}

-- ---- what the filled tables hold

filled_long : {k : ℕ} {xs d₀ d : List ℕ} → Fills k xs d₀ d → k ≤ length d₀ → length d ≡ length d₀
filled_long {k} {xs} {d₀} f l = ap length f.is ∙ length_over xs d₀ (omega (arith, f.fits))

pub filled_full : {w : _} {old new : Room} → Filled w old new → Full old → Full new
filled_full f u =
    record {
      long1 = omega (arith, u.long1, filled_long f.routes u.long1);
      long2 = omega (arith, u.long2, filled_long f.positions u.long2);
      long3 = omega (arith, u.long3, filled_long f.arrivals u.long3);
      long4 = omega (arith, u.long4, filled_long f.departures u.long4);
      long5 = omega (arith, u.long5, filled_long f.walks u.long5);
    }

-- the front of a filled table is what was read
filled_same : (n : ℕ) {k : ℕ} {xs d₀ d : List ℕ} → Fills k xs d₀ d → k ≤ length d₀ → length xs ≡ n → Same n xs d
filled_same n {k} {xs} {d₀} {d} f l e =
    record {
      each = λ i b. sym (ap (λ (z : List ℕ). get_or z i 0) f.is ∙ get_d_over xs d₀ i 0 (omega arith));
      long = omega arith;
      other = omega (arith, f.fits, filled_long f l);
    }

-- ---- a bad record, and 7 to 11

-- what 7 to 11 make of it tells of the timetable its head counts alone
judged_done : (T : Tables) (o : Option Refusal) → done (record { stops = T.stops; routes = T.routes; walks = T.walks }) o ≡ reading_of (judged T o)
unfolding judged
judged_done T None = refl
judged_done T (Some x) = refl

module _ {f : List ℕ} {old new : Room} where
  pub judged_bad : {x : Refusal} → Ended (whole_of f) (Err x) old new → Judged f (Err x) old new
  unfolding body_of
  judged_bad {x} e =
      record {
        answer = simp (ne_eqb (whole_of f).bad 0 e.end.met) (λ i. Err (e.end.is i));
        filled = e.filled;
      }

  module _ (pre : BodyRoom f old) (bytes : (i : ℕ) → byte f i < 256) (e : Ended (whole_of f) (Ok tt) old new) where
    abbrev U : Tables
    U = tables_of (heads_of f) (lists new)

    right : Right (tables_in f)
    right = well_read f bytes e.end

    agree : Agree (tables_in f) U
    unfolding tables_in
    agree =
        record {
          stops = refl;
          routes = refl;
          walks = refl;
          same1 = filled_same _ e.filled.routes pre.full.long1 right.exact.routes;
          same2 = filled_same _ e.filled.positions pre.full.long2 right.exact.positions;
          same3 = filled_same _ e.filled.arrivals pre.full.long3 right.exact.arrivals;
          same4 = filled_same _ e.filled.departures pre.full.long4 right.exact.departures;
          same5 = filled_same _ e.filled.walks pre.full.long5 right.exact.walks;
        }

    -- the tables as they stand, with a feed's head counts beside them
    module _ {h : Heads} (eh : h ≡ heads_of f) {T : Tables} (et : T ≡ tables_of h (lists new)) where
      as_read : T ≡ U
      as_read = et ∙ ap (λ (k : Heads). tables_of k (lists new)) eh

      pub counts_right : CountsRight T
      counts_right =
          let u = filled_full e.filled pre.full in
          rw as_read
          (record {
            full = record { routes = u.long1; positions = u.long2; arrivals = u.long3; departures = u.long4; walks = u.long5 };
            counts = sym (agree_counts agree) ∙ counts_unbroken (tables_in f) right.counts;
          })

      answer : done (heads_of f) (first_broken whole_rules T) ≡ reading_of (body_of f)
      unfolding body_of tables_in
      answer =
          ap (λ (t : Tables). done (heads_of f) (first_broken whole_rules t)) as_read
          ∙ ap (done (heads_of f)) (sym (agree_whole agree right.counts))
          ∙ judged_done (tables_in f) (first_broken whole_rules (tables_in f))
          ∙ sym (ap reading_of (simp (eq-eqb (whole_of f).bad 0 e.end)))

      pub judged_broken : {x : Refusal} → Err x ≡ done (tt {0}) (first_broken whole_rules T) → Judged f (Err x) old new
      judged_broken {x} k =
          record {
            answer = sym (ap (done (heads_of f)) (done_some (tt {0}) (first_broken whole_rules T) k)) ∙ answer;
            filled = e.filled;
          }

      pub judged_well : Ok (tt {0}) ≡ done (tt {0}) (first_broken whole_rules T) → Judged f (Ok h) old new
      judged_well k =
          record {
            answer = (λ i. Ok (eh i)) ∙ sym (ap (done (heads_of f)) (done_none (tt {0}) (first_broken whole_rules T) k)) ∙ answer;
            filled = e.filled;
          }
