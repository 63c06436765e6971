-- The order of refusals: 6, then 1, 2 and the records for reading; 6, the rules, then 15 for writing.
use mathlib.Core.Path.{◌≡◌, refl, sym, ap, ◌∙◌}
use mathlib.Core.Bool.{true, false}
use mathlib.Core.List.{List}
use Prim.Native.Nat.{ℕ, ◌-◌, ◌≤◌, ◌<◌}
use native.Mathlib.Omega.{arith}
use lib.ListN.{length}
use borrow.Author.Tests.{lt-ltb, le-ltb}
use Rattle.std.specs.Prelude.{Option, Some, None, Result, Ok, Err}
use Rattle.laws.specs.Below.{or_else}
use Rattle.laws.proofs.Checking.{or_else_nothing}
use Rattle.laws.proofs.Found.{or_else_none, or_else_some, given_true, given_false}
use Rattle.paper.specs.Timetable.{Tables, tables}
use Rattle.paper.specs.Rules.{refusal, fault_of, Fit}
use Rattle.paper.specs.Feed.{size_of, feed_of}
use Rattle.paper.specs.Reading.{Untouched, length_right, sum_right, body_of, read_of}
use Rattle.paper.specs.Reply.{done, short_table, lengths_of, read_into, out_short, write_fault, write_of, out_unless, out_after}
use Rattle.paper.specs.declared.Heads.{Heads}
use Rattle.paper.specs.declared.Refusal.{Refusal}
use Rattle.paper.specs.declared.Room.{Room}
use Rattle.paper.proofs.Checks.{sound_of}
use Rattle.timetable.specs.Fault.{tables_fault}
use Rattle.timetable.proofs.Short.{full_of}
use Rattle.timetable.proofs.Faults.{done_none, done_some}
use Rattle.sending.specs.Puts.{Puts}
use Rattle.records.specs.State.{BodyRoom}
use Rattle.feed.specs.State.{heads_of, Lists, lists, lengths, Leaves}
use Rattle.feed.specs.Writing.{Sends}
use Rattle.feed.proofs.Top.{length_bounds}

-- ---- reading

leaves_untouched : (n q : ℕ) (x : Lists) → Leaves (Untouched n q) (Err (refusal n q)) x x
leaves_untouched n q x = record { answer = refl; routes = refl; positions = refl; arrivals = refl; departures = refl; walks = refl }

module _ (f : List ℕ) (x : Lists) where
  pub leaves_short : {r : Refusal} → Err r ≡ done (tt {0}) (short_table (lengths x)) → Leaves (read_into (lengths x) f) (Err r) x x
  unfolding read_into
  leaves_short {r} e = rw (done_some (tt {0}) (short_table (lengths x)) e) (leaves_untouched r.number r.place x)

  module _ (e : Ok (tt {0}) ≡ done (tt {0}) (short_table (lengths x))) where
    none_short : short_table (lengths x) ≡ None
    none_short = done_none (tt {0}) (short_table (lengths x)) e

    pub leaves_length : length_right f ≡ false → {r : Refusal} → r ≡ refusal 1 0 → Leaves (read_into (lengths x) f) (Err r) x x
    unfolding read_into read_of
    leaves_length l i = rw (none_short, i) (simp l (leaves_untouched 1 0 x))

    module _ (l : length_right f ≡ true) where
      pub leaves_sum : sum_right f ≡ false → {r : Refusal} → r ≡ refusal 2 (length f - 2) → Leaves (read_into (lengths x) f) (Err r) x x
      unfolding read_into read_of
      leaves_sum s i = rw (none_short, i) (simp (l, s) (leaves_untouched 2 (length f - 2) x))

      pub leaves_body : sum_right f ≡ true → {r : Result Heads Refusal} {y : Lists} → Leaves (body_of f) r x y → Leaves (read_into (lengths x) f) r x y
      unfolding read_into read_of
      leaves_body s v = rw none_short (simp (l, s) v)

pub body_room : {f : List ℕ} (room : Room) → Ok (tt {0}) ≡ done (tt {0}) (short_table (lengths (lists room))) → length_right f ≡ true → BodyRoom f room
body_room {f} room e l =
    let b = length_bounds f l in
    let u = full_of (tables (heads_of f) room.routes.now room.positions.now room.arrivals.now room.departures.now room.walks.now) (none_short f (lists room) e) in
    record {
      feed≥ = b.0;
      feed≤ = omega (arith, b.1);
      full = record { long1 = u.routes; long2 = u.positions; long3 = u.arrivals; long4 = u.departures; long5 = u.walks };
    }

-- ---- writing

or_assoc : {A : Type 0} (x y z : Option A) → or_else x (or_else y z) ≡ or_else (or_else x y) z
unfolding or_else
or_assoc None y z = refl
or_assoc (Some a) y z = refl

module _ (T : Tables) where
  fault_is : (room : ℕ) → write_fault T room ≡ or_else (tables_fault T) (out_short T room)
  unfolding write_fault tables_fault
  fault_is room = or_assoc (short_table (lengths_of T)) (fault_of T) (out_short T room)

  sends_fault : {x : Refusal} {d : List ℕ} → write_fault T (length d) ≡ Some x → Sends T (Err x) d d
  unfolding write_of out_after
  sends_fault {d = d} e =
      record {
        answer = sym (ap (done (size_of T)) e);
        out = sym (ap (λ (o : Option Refusal). out_unless o T d) e);
      }

  pub sends_refused : {x : Refusal} {d : List ℕ} → Err x ≡ done (tt {0}) (tables_fault T) → Sends T (Err x) d d
  sends_refused {d = d} e = sends_fault (fault_is (length d) ∙ or_else_some (out_short T (length d)) (done_some (tt {0}) (tables_fault T) e))

  module _ (e : Ok (tt {0}) ≡ done (tt {0}) (tables_fault T)) where
    unbroken : tables_fault T ≡ None
    unbroken = done_none (tt {0}) (tables_fault T) e

    rest_is : (room : ℕ) → write_fault T room ≡ out_short T room
    rest_is room = fault_is room ∙ or_else_none (out_short T room) unbroken

    pub sends_long : {size : ℕ} {x : Refusal} {d : List ℕ} → size ≡ size_of T → length d < size → x ≡ refusal 15 size → Sends T (Err x) d d
    unfolding out_short
    sends_long {x = x} {d = d} s l i =
        let r : refusal 15 (size_of T) ≡ x = rw (i, s) refl in
        sends_fault (rest_is (length d) ∙ given_true _ (lt-ltb (length d) (size_of T) (omega arith)) ∙ ap (λ (y : Refusal). Some y) r)

    pub sends_done : {size r : ℕ} {d d' : List ℕ} → size ≡ size_of T → size ≤ length d → Puts (feed_of T) 0 d r d' → Sends T (Ok size) d d'
    unfolding out_short write_of out_after
    sends_done {size} {r} {d} {d'} s l p =
        let o : write_fault T (length d) ≡ None
        = rest_is (length d) ∙ given_false _ (le-ltb (length d) (size_of T) (omega arith)) in
        record {
          answer = (λ i. Ok (s i)) ∙ sym (ap (done (size_of T)) o);
          out = p.is ∙ sym (ap (λ (z : Option Refusal). out_unless z T d) o);
        }

    -- a timetable that no rule refuses is sound, in tables of full size
    pub fit : Fit T
    unfolding tables_fault
    fit =
        let b = or_else_nothing (short_table (lengths_of T)) (fault_of T) unbroken in
        let u = full_of T b.0 in
        record {
          sound = sound_of T b.1;
          routes_room = u.routes;
          positions_room = u.positions;
          arrivals_room = u.arrivals;
          departures_room = u.departures;
          walks_room = u.walks;
        }
