-- Allowing version 2 takes nothing away: a file that is accepted with version 1 only has the same rows where both are allowed, and
-- with them the same index. Its forest is the same, since each of its labels is read the same.
use Prim.Native.Nat.{ℕ, zero, suc}
use mathlib.Core.Path.{◌≡◌}
use mathlib.Core.Bool.{Bool}
use mathlib.Core.List.{List}
use Rattle.answer.specs.Outcome.{answer}
use Rattle.label.specs.declared.Versions.TheVariants.{One, OneAndTwo}
use Rattle.label.proofs.Choice.{read_with_both}
use Rattle.sfdu.specs.Row.{Row}
use Rattle.sfdu.specs.Forest.{Forest, done, leaf, group, IsLabel, Valid}
use Rattle.sfdu.specs.Check.{rows_of_file}
use Rattle.sfdu.proofs.Exact.{accepted_exactly}

label_with_both : (bytes : List ℕ) (opened : Bool) (size : ℕ) → IsLabel One bytes opened size → IsLabel OneAndTwo bytes opened size
label_with_both bytes opened size is = record {
  twenty = is.twenty;
  label = is.label;
  reads = read_with_both bytes is.label is.reads;
  class = is.class;
  follows = is.follows;
}

valid_with_both : (left : ℕ) (F : Forest) → Valid One left F → Valid OneAndTwo left F
valid_with_both zero done v = tt
valid_with_both zero (leaf label value rest) v = absurd v
valid_with_both zero (group label inside rest) v = absurd v
valid_with_both (suc left) done v = tt
valid_with_both (suc left) (leaf label value rest) v = (label_with_both label _ _ v.0, valid_with_both (suc left) rest v.1)
valid_with_both (suc left) (group label inside rest) v =
    (label_with_both label _ _ v.0, valid_with_both left inside v.1, valid_with_both (suc left) rest v.2)

pub same_rows_with_both : (f : List ℕ) (rows : List Row) → rows_of_file One f ≡ answer rows → rows_of_file OneAndTwo f ≡ answer rows
same_rows_with_both f rows e =
    let (small, (F, d)) = (accepted_exactly One f rows).0 e in
    (accepted_exactly OneAndTwo f rows).1
    (small, (F, record { bytes = d.bytes; valid = valid_with_both 8 F d.valid; rows_are = d.rows_are }))
