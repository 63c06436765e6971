-- What printing promises for every input: the lines of 01 in the front of the buffer, or nothing at all.
use Rattle.std.specs.Prelude.{◌≡◌, Bool, cond, not, ◌&&◌, List, ℕ, leb, ltb, length, get_or, Option, Some, None}
use Rattle.laws.specs.Below.{any_below}
use Rattle.laws.specs.Lists.{over}
use Rattle.paper.specs.Reply.{zero_entry}
use Rattle.paper.specs.Lines.{answer_lines, refused_line}
use Rattle.paper.specs.declared.Entry.{Entry}
use Rattle.paper.specs.declared.Answer.{Answer}
use Rattle.paper.specs.declared.Refusal.{Refusal}

-- the longest lines of an answer: 36 bytes, and for each of nine entries 35 bytes and eight legs of 55
abbrev pub lines_most : ℕ
lines_most = 4311

-- the longest line of a refusal
abbrev pub refused_most : ℕ
refused_most = 30

abbrev pub long : Entry → Bool
long entry = ltb 8 entry.rides

-- is there an entry of more than eight rides among the first `count`?
unfoldable pub overlong : ℕ → List Entry → Bool
overlong count entries = any_below count λ i. long (get_or entries i zero_entry)

-- the buffer has room, the legs table its full size, and the answer at most nine entries of at most eight rides
unfoldable pub printable : Answer → List ℕ → List ℕ → Bool
printable a legs out = leb lines_most (length out) && leb 320 (length legs) && leb a.count 9 && not (overlong a.count a.entries)

-- xs in the front of the buffer and its length; or the buffer as it was
pub record Prints (b : Bool) (xs d e : List ℕ) (r : Option ℕ) : Type 0 where
  pub answer : r ≡ cond b (Some (length xs)) None
  pub after : e ≡ cond b (over xs d) d

abbrev pub Rendered : Answer → List ℕ → List ℕ → List ℕ → Option ℕ → Type 0
Rendered a legs d e r = Prints (printable a legs d) (answer_lines a legs) d e r

abbrev pub Refuses : Refusal → List ℕ → List ℕ → Option ℕ → Type 0
Refuses x d e r = Prints (leb refused_most (length d)) (refused_line x.number x.place) d e r
