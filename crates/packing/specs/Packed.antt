-- 01's answers as one number each, and the entries as nineteen.
use Rattle.std.specs.Prelude.{cond, List, [], ◌∷◌, ℕ, ◌+◌, ◌*◌, ltb, length, get_or, Result, Ok, Err}
use Rattle.laws.specs.Lists.{over, pieces}
use Rattle.paper.specs.declared.Refusal.{Refusal}
use Rattle.paper.specs.Reply.{zero_entry}
use Rattle.paper.specs.declared.Heads.{Heads}
use Rattle.paper.specs.declared.Entry.{Entry}

-- ---- an answer as one number: a refusal's number stands above the low 32 bits, where its place stands, or else a count

abbrev pub packed : ℕ → ℕ → ℕ
packed number place = number * 4294967296 + place

-- what checking, writing or asking answers: the count is the work limit, the bytes, or the work
abbrev pub checked_number : Result ℕ Refusal → ℕ
checked_number (Ok count) = count
checked_number (Err x) = packed x.number x.place

-- there are fewer than 1,024 stops and 128 routes, so the three counts stand beside each other
abbrev pub reading_number : Result Heads Refusal → ℕ
reading_number (Ok h) = h.stops + 1024 * h.routes + 131072 * h.walks
reading_number (Err x) = packed x.number x.place

-- ---- the entries: their count, then nine pairs of rides and arrival

abbrev pub pair_of : Entry → List ℕ
pair_of e = e.rides ∷ e.arrival ∷ []

unfoldable pub entry_numbers : ℕ → List Entry → List ℕ
entry_numbers count es = count ∷ pieces 9 (λ i. pair_of (get_or es i zero_entry))

-- in the front of d; a d of under nineteen is left alone
unfoldable pub entries_after : ℕ → List Entry → List ℕ → List ℕ
entries_after count es d = cond (ltb (length d) 19) d (over (entry_numbers count es) d)
