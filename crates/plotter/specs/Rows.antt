-- Cited only by promises of private functions: the rows of a strip, as the code holds them.
use Rattle.std.specs.Prelude.{ℕ, ◌≡◌, List}
use Rattle.answer.specs.Outcome.{Outcome, answer}
use Rattle.answer.specs.declared.Shown.{Shown}
use Rattle.reader.specs.Rows.{row_of}
use Rattle.plotter.specs.Strip.{windows_of, draw_into}
use Rattle.plotter.specs.declared.Rows.{Rows}

-- their windows
abbrev pub windows_in : Rows → Outcome (List Shown)
windows_in r = windows_of (row_of r.kind r.file.now) r.first r.count r.window.first r.window.count

-- their lines, the first of them line 0
abbrev pub lines_into : ℕ → Rows → Outcome (List ℕ)
lines_into room r = draw_into room r.file.now (row_of r.kind r.file.now) r.first r.count r.window.first r.window.count 0

-- all rows are there and the window fits them
abbrev pub AllThere : Rows → Type 0
AllThere r = (windows : List Shown) × (windows_in r ≡ answer windows)
