-- What printing an answer wants: room in the buffer, the legs table, and no more entries and rides than 01 has.
use Rattle.std.specs.Prelude.{List, ℕ, ◌≤◌, ◌<◌, length, get_or}
use Rattle.paper.specs.Reply.{zero_entry}
use Rattle.paper.specs.declared.Entry.{Entry}
use Rattle.paper.specs.declared.Answer.{Answer}
use Rattle.lettering.specs.Put.{HasRoom}
use Rattle.lettering.specs.declared.Pen.{Pen}

-- what printing the entries wants
pub record EntriesRoom (entries : List Entry) (legs : List ℕ) (p : Pen) : Type 0 where
  pub room : HasRoom 4275 p
  pub table : 320 ≤ length legs
  pub nine : length entries ≤ 9
  pub few : (i : ℕ) → i < length entries → (get_or entries i zero_entry).rides ≤ 8

-- what printing an answer wants
pub record AnswerRoom (a : Answer) (legs : List ℕ) (p : Pen) : Type 0 where
  pub room : HasRoom 4311 p
  pub table : 320 ≤ length legs
  pub nine : a.count ≤ 9
  pub few : (i : ℕ) → i < a.count → (get_or a.entries i zero_entry).rides ≤ 8
