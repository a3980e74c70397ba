-- Cited only by the promise of a private function: the step that both calls begin with.
use Rattle.std.specs.Prelude.{ℕ, List, length}
use Rattle.answer.specs.Outcome.{Outcome, answer, need, and_then}
use Rattle.label.specs.declared.Versions.{Versions}
use Rattle.sfdu.specs.Check.{rows_of_file}
use Rattle.row_index.specs.Index.{index_of, same}
use Rattle.house_record.specs.Record.{read_as}

-- how many rows the file has, where the list kept in a record of this kind is its index: 14, faults, 13, 11
unfoldable pub rows_borne_out : Versions → ℕ → ℕ → List ℕ → List ℕ → Outcome ℕ
rows_borne_out versions kind first f s =
    and_then (rows_of_file versions f)
    (λ rows. and_then (read_as kind first s) (λ xs. need (same xs (index_of rows)) 11 (answer (length rows))))
