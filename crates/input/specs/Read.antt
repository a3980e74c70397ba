-- How many bytes were read, to the memory's end or the file's, or before the read that failed.
use Rattle.std.specs.Prelude.{ℕ, List, ◌++◌, codes, Result, Ok, Err}
use Rattle.std.specs.Fmt.{decimal}
use Rattle.input.specs.declared.Cut.{Cut}

abbrev pub bytes_read : Result ℕ Cut → ℕ
bytes_read (Ok size) = size
bytes_read (Err cut) = cut.0

-- what is printed of a read that failed
abbrev pub cut_text : Cut → List ℕ
cut_text cut = codes "a read failed after " ++ decimal cut.0 ++ codes " bytes"
