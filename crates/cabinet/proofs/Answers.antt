-- No second number and no second content of a lent table can meet the promises of reading, writing and asking for C and Rust.
use mathlib.Core.Path.{◌≡◌, sym, ap, ◌∙◌}
use mathlib.Core.List.{List}
use Prim.Native.Nat.{ℕ}
use Rattle.paper.specs.Timetable.{Tables}
use Rattle.paper.specs.Reading.{Outcome}
use Rattle.paper.specs.Reply.{Reply}
use Rattle.std.specs.Prelude.{Result}
use Rattle.paper.specs.declared.Heads.{Heads}
use Rattle.paper.specs.declared.Refusal.{Refusal}
use Rattle.paper.specs.declared.Room.{Room}
use Rattle.paper.specs.declared.Answer.{Answer}
use Rattle.feed.specs.State.{Lists, lists, Leaves}
use Rattle.feed.proofs.One.{SameRead, one_reading, one_writing}
use Rattle.planner.proofs.Starred.{Same, one_reply}
use Rattle.packing.specs.Packed.{checked_number, reading_number, entries_after}
use Rattle.cabinet.specs.Calls.{five, Reads, Writes, Asks}

pub one_read : {o : Outcome} {r s : ℕ} {old new other : Lists} → (x : Reads o r old new) (y : Reads o s old other) →
    (r ≡ s) × SameRead x.reading y.reading new other
one_read x y =
    let one = one_reading x.leaves y.leaves in
    (x.number ∙ ap reading_number one.answer ∙ sym y.number, one)

-- what reading left in a room, of the tables themselves
pub lent_back : {o : Outcome} {r : Result Heads Refusal} {old : Lists} (room : Room) {t1 t2 t3 t4 t5 : List ℕ} → Leaves o r old (lists room) →
    t1 ≡ room.routes.now → t2 ≡ room.positions.now → t3 ≡ room.arrivals.now → t4 ≡ room.departures.now → t5 ≡ room.walks.now →
    Leaves o r old (five t1 t2 t3 t4 t5)
lent_back room h a b c d e =
    record {
      answer = h.answer;
      routes = a ∙ h.routes;
      positions = b ∙ h.positions;
      arrivals = c ∙ h.arrivals;
      departures = d ∙ h.departures;
      walks = e ∙ h.walks;
    }

pub one_write : {T : Tables} {r s : ℕ} {d₀ d e : List ℕ} → Writes T r d₀ d → Writes T s d₀ e → (r ≡ s) × (d ≡ e)
one_write x y =
    let one = one_writing x.sends y.sends in
    (x.number ∙ ap checked_number one.0 ∙ sym y.number, one.1)

pub one_ask : {x : Reply} {r s : ℕ} {labels labels' legs legs' d₀ d e : List ℕ}
    → (a : Asks x r labels legs d₀ d) (b : Asks x s labels' legs' d₀ e)
    → (r ≡ s) × ((d ≡ e) × Same a.answer b.answer labels labels' legs legs')
one_ask {d₀} a b =
    let one = one_reply a.replied b.replied in (
      a.number ∙ ap (λ (y : Answer). checked_number y.verdict) one.answer ∙ sym b.number,
      (a.entries_are ∙ ap (λ (y : Answer). entries_after y.count y.entries d₀) one.answer ∙ sym b.entries_are, one),
    )
