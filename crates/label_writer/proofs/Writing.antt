-- What the label writer writes where it refuses nothing; and its length field: eight bytes.
use Prim.Native.Nat.{ℕ, ◌≤◌}
use mathlib.Core.Path.{◌≡◌}
use mathlib.Core.Bool.{true}
use mathlib.Core.List.{List, ◌++◌}
use lib.ListN.{length}
use borrow.Author.Tests.{le-leb}
use Rattle.answer.specs.Outcome.{answer}
use Rattle.text.proofs.Digits.{length_digits}
use Rattle.label.specs.declared.Version.{Version}
use Rattle.label.specs.declared.Version.TheVariants.{One, Two}
use Rattle.label.specs.Head.{is_head}
use Rattle.label_writer.specs.Write.{holds, field_of, write_label}

pub length_field : (version : Version) (n : ℕ) → length (field_of version n) ≡ 8
length_field One n = length_digits 10 48 8 n
length_field Two n = length_digits 256 0 8 n

module _ (version : Version) (head : List ℕ) (n room : ℕ) where
  pub written : is_head version head ≡ true → holds version n ≡ true → 20 ≤ room
      → write_label version head n room ≡ answer (head ++ field_of version n)
  unfolding write_label
  written good held h = rw (good, held, le-leb 20 room h)
