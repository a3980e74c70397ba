-- `sfdu::object_at` meets its contract: the label's reading, then whether its value fits, then its class.
use Prim.Native.Nat.{ℕ, ◌+◌, ◌-◌, ◌≤◌, ◌<◌}
use native.Mathlib.Omega.{arith}
use mathlib.Core.Path.{◌≡◌, ◌∙◌, sym, ap}
use mathlib.Core.Bool.{Bool}
use mathlib.Core.List.{List}
use lib.ListN.{length, take, drop, length-drop}
use Rattle.answer.specs.Told.{told}
use Rattle.answer.specs.Outcome.{Outcome, answer, refuse}
use Rattle.answer.proofs.Parts.{all_that_is_left}
use Rattle.label.specs.declared.Label.{Label}
use Rattle.label.specs.declared.Versions.{Versions}
use Rattle.label.specs.Label.{read_label}
use Rattle.label.specs.Opened.{is_opened}
use Rattle.label.proofs.Reading.{read_has_20_bytes}
use Rattle.sfdu.specs.Scan.{object}
use Rattle.sfdu.specs.Private.{ObjectAt}
use Rattle.sfdu.proofs.Steps.{value_too_long, takes, label_not_read}
use Rattle.sfdu.proofs.object_at.Goals as goal

module _ (versions : Versions) (part : List ℕ) (at : ℕ) where
  -- what was read of `&part[at..]` is what stands at that place of the part
  seen : {o : Outcome Label} → o ≡ read_label versions (take (length part - at) (drop at part)) → read_label versions (drop at part) ≡ o
  seen e = ap (read_label versions) (sym (all_that_is_left part at)) ∙ sym e

  module _ (l : Label) (reads : read_label versions (drop at part) ≡ answer l) where
    long : at + 20 ≤ length part
    long = omega (arith, length-drop at part, read_has_20_bytes versions (drop at part) l reads)

    overruns : length part - (at + 20) < l.length → object versions (drop at part) ≡ refuse 4 0
    overruns h = value_too_long versions (drop at part) l reads (omega (arith, length-drop at part))

    stands : (opened : Bool) → l.length ≤ length part - (at + 20) → is_opened l.class ≡ opened
        → ObjectAt versions part at opened (at + 20 + l.length)
    stands opened h class = record {
      label = l;
      is = takes versions (drop at part) l reads (omega (arith, length-drop at part));
      class = class;
      ends = omega arith;
      inside = omega (arith, long);
    }

pub overflow_sub-room : goal.overflow_sub-room
overflow_sub-room c =
    let a = c.args in
    long a.versions a.part.now a.at c.in-Ok.l (seen a.versions a.part.now a.at (ap told (sym c.in-Ok.is) ∙ c.read_label.ensures))

pub returns-then-room-l : goal.returns-then-room-l
returns-then-room-l c =
    let a = c.args in
    let reads = seen a.versions a.part.now a.at (ap told (sym c.in-Ok.is) ∙ c.read_label.ensures) in
    (0, overruns a.versions a.part.now a.at c.in-Ok.l reads c.if-room-l.true)

pub returns-then-is_opened : goal.returns-then-is_opened
returns-then-is_opened c =
    let a = c.args in
    let reads = seen a.versions a.part.now a.at (ap told (sym c.in-Ok.is) ∙ c.read_label.ensures) in
    stands a.versions a.part.now a.at c.in-Ok.l reads _ c.if-room-l.false (sym c.is_opened.ensures ∙ c.if-is_opened.true)

pub returns-in-Err : goal.returns-in-Err
returns-in-Err c =
    let a = c.args in
    (_, label_not_read a.versions (drop a.at a.part.now) _ _ (seen a.versions a.part.now a.at (ap told (sym c.in-Err.is) ∙ c.read_label.ensures)))

pub returns-else-is_opened : goal.returns-else-is_opened
returns-else-is_opened c =
    let a = c.args in
    let reads = seen a.versions a.part.now a.at (ap told (sym c.in-Ok.is) ∙ c.read_label.ensures) in
    stands a.versions a.part.now a.at c.in-Ok.l reads _ c.if-room-l.false (sym c.is_opened.ensures ∙ c.if-is_opened.false)
