-- `label_writer::write_label` meets its contract: the head and the length field are the buffer's first twenty bytes.
use native.Mathlib.Omega.{arith}
use mathlib.Core.Path.{◌≡◌, ◌∙◌, sym, ap}
use mathlib.Core.Bool.{true}
use mathlib.Core.List.{List}
use lib.ListN.{length, length-append}
use lib.Dec.{eqb}
use borrow.Author.Tests.{eqb-true}
use Prim.Native.Nat.{ℕ}
use Rattle.answer.proofs.Tests.{both_hold}
use Rattle.answer.proofs.Writers.{written_to_the_front, pieces_put}
use Rattle.label.specs.declared.Version.{Version}
use Rattle.label.specs.Head.{head_good, is_head}
use Rattle.label_writer.specs.Write.{field_of}
use Rattle.label_writer.proofs.Writing.{length_field, written}
use Rattle.label_writer.proofs.write_label.Goals as goal

-- a head has twelve bytes
twelve : (version : Version) (head : List ℕ) → is_head version head ≡ true → length head ≡ 12
twelve version head good = eqb-true (length head) 12 (both_hold (eqb (length head) 12) (head_good version head) good).0

pub returns : goal.returns
returns c =
    let a = c.args in
    let head = a.head.now in
    let old = a.out.now in
    let good = sym c.is_head.ensures ∙ c.if-not-is_head.false in
    let held = sym c.can_hold.ensures ∙ c.if-not-can_hold.false in
    let field = c.field_of-field.result in
    let twelve_bytes = twelve a.version head good in
    let writes = written a.version head a.length (length old) good held c.if-out-lt-LABEL.false in
    let is : field ≡ field_of a.version a.length = c.field_of-field.ensures in
    let eight = length_field a.version a.length in
    rw (c.copy_from_slice.ensures.after, c.copy_from_slice-2.ensures.after, pieces_put head field old 12 8 twelve_bytes (ap length is ∙ eight))
    (rw is (written_to_the_front old 20 (length-append head (field_of a.version a.length) ∙ omega (arith, twelve_bytes, eight)) writes))
