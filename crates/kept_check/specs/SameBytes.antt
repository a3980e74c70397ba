-- Each way and back (document 02, item 9: "For an index that the index check accepts for the file, with the true count in kind 2, each
-- way and back gives the same bytes"), for every file and every choice of versions, wherever both buffers have room. That numbers are
-- bytes is supposed; a lent slice has it by its type.
use Rattle.std.specs.Prelude.{ℕ, ◌+◌, ◌≤◌, ◌≡◌, List, length}
use Rattle.answer.specs.Outcome.{answer, and_then}
use Rattle.label.specs.declared.Versions.{Versions}
use Rattle.row_index.specs.Index.{check_index}
use Rattle.little.specs.LittleEndian.{Below}
use Rattle.kept.specs.Kept.{read_kept}
use Rattle.kept_rows.specs.Kind2.{to_kind1}
use Rattle.kept_check.specs.Check.{to_kind2, check_kept2}

pub record SameBytes (versions : Versions) (f : List ℕ) : Type 0 where
  -- kind 1 to kind 2 and back: of a record whose list the index check accepts for the file
  pub there_and_back : (s xs : List ℕ) (room again : ℕ) → Below 256 s → read_kept s ≡ answer xs → check_index versions f xs ≡ answer tt
      → length s + 4 ≤ room → length s ≤ again → and_then (to_kind2 versions f s room) (λ t. to_kind1 t again) ≡ answer s
  -- kind 2 to kind 1 and to kind 2 again: of a record that the check accepts for the file
  pub back_and_there : (t : List ℕ) (room again : ℕ) → Below 256 t → check_kept2 versions f t ≡ answer tt
      → length t ≤ room + 4 → length t ≤ again → and_then (to_kind1 t room) (λ s. to_kind2 versions f s again) ≡ answer t
