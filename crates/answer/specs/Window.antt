-- Windows of a row (document 01: "A window is a first byte a and a count c. It fits a row of r bytes when a ≤ r and
-- c ≤ r − a. The answer shows that part of the lent file, c bytes, and says at which place it begins").
use Rattle.std.specs.Prelude.{ℕ, ◌+◌, ◌-◌, Bool, ◌&&◌, List, take, drop, leb}
use Rattle.answer.specs.Outcome.{Outcome, answer, need}
use Rattle.answer.specs.declared.Shown.{Shown}

-- the window (a, c) fits a row of r bytes
abbrev pub fits : ℕ → ℕ → ℕ → Bool
fits r a c = leb a r && leb c (r - a)

-- c bytes of a row from its byte a on; the address stays the row's own (document 02, item 8)
abbrev pub window_at : ℕ → ℕ → Shown → Shown
window_at a c row = record { part = record { place = row.part.place + a; count = c }; address = row.address }

-- the window (a, c) of a row, or refusal 7
abbrev pub window_in : ℕ → ℕ → Shown → Outcome Shown
window_in a c row = need (fits row.part.count a c) 7 (answer (window_at a c row))

-- the bytes of a file from a place on, as many as are there and no more than asked
abbrev pub bytes_at : List ℕ → ℕ → ℕ → List ℕ
bytes_at f place count = take count (drop place f)
