-- The verdict on a field of a row in one step: it is given exactly where section 8.2 states plain limits, and what is judged is then
-- the unsigned number in the field's bytes. It rests on one test computed over all fields: those that are not stored as unsigned
-- integers have no line in the table of limits.
use Prim.Native.Nat.{ℕ, zero, suc}
use mathlib.Core.Path.{◌≡◌, refl, ◌∙◌, sym, ap}
use mathlib.Core.List.{List, map}
use lib.IntN.{pos}
use Rattle.answer.specs.Outcome.{Outcome, answer, refuse, and_then}
use Rattle.answer.specs.Window.{bytes_at}
use Rattle.answer.specs.declared.Part.{Part}
use Rattle.answer.specs.declared.Shown.{Shown}
use Rattle.answer.proofs.Outcomes.{answer_is_no_refusal, and_then_assoc, and_then_agrees_where, after_answer}
use Rattle.little.specs.LittleEndian.{le_number}
use Rattle.fixed_rows.specs.Read.{find_row}
use Rattle.bursts.specs.Rows.{bursts}
use Rattle.burst_layout.specs.Layout.{layout, field_at}
use Rattle.burst_layout.specs.declared.Field.{Field}
use Rattle.burst_layout.specs.declared.Storage.{Storage}
use Rattle.burst_layout.specs.declared.Storage.TheVariants as stored
use Rattle.burst_layout.proofs.EndToEnd.{field_has_its_position}
use Rattle.burst_layout.proofs.Lines.{of_each}
use Rattle.limits.specs.BurstLimits.{burst_table}
use Rattle.limits.specs.declared.Limit.{Limit}
use Rattle.verdicts.specs.Verdict.{side, limits_of}
use Rattle.verdicts.specs.declared.Side.{Side}
use Rattle.burst_fields.specs.Fields.{content_of, part_of, field_from, field_of, verdict_on, field_verdict}

-- what the table has for a field that is not stored as an unsigned integer; of an unsigned one nothing is asked
abbrev limits_unless : Storage → ℕ → Outcome Limit
limits_unless stored.Unsigned n = refuse 10 0
limits_unless stored.Signed n = limits_of burst_table n
limits_unless stored.Float4 n = limits_of burst_table n
limits_unless stored.Float8 n = limits_of burst_table n
limits_unless stored.Text n = limits_of burst_table n

only_unsigned_have_limits : map (λ (g : Field). limits_unless g.stored g.position) layout ≡ map (λ (g : Field). refuse 10 0) layout
unfolding burst_table layout
only_unsigned_have_limits = refl

no_limits_unless : (n : ℕ) (g : Field) → field_at n ≡ answer g → limits_unless g.stored n ≡ refuse 10 0
no_limits_unless zero g is = absurd (answer_is_no_refusal (sym is))
no_limits_unless (suc i) g is =
    ap (limits_unless g.stored) (sym (field_has_its_position (suc i) g is))
    ∙ of_each (λ (h : Field). limits_unless h.stored h.position) (λ (h : Field). refuse 10 0) layout only_unsigned_have_limits i g is

-- the verdict on the unsigned number in the bytes of a part, by the limits of field n
abbrev pub judged_at : ℕ → List ℕ → Part → Outcome Side
judged_at n f p = and_then (limits_of burst_table n) (λ l. answer (side (pos (le_number (bytes_at f p.place p.count))) l))

by_storage : (n : ℕ) (f : List ℕ) (p : Part) (s : Storage) → limits_unless s n ≡ refuse 10 0 → verdict_on n (content_of s f p) ≡ judged_at n f p
by_storage n f p stored.Unsigned none = refl
by_storage n f p stored.Signed none = simp none
by_storage n f p stored.Float4 none = simp none
by_storage n f p stored.Float8 none = simp none
by_storage n f p stored.Text none = simp none

-- the theorem: of a row that is there, the field of section 8.1, then its limits, then the side of the number that stands in it
pub verdict_by_the_limits : (f : List ℕ) (first k n : ℕ) (row : Shown) → find_row (bursts first) f k ≡ answer row
    → field_verdict f first k n ≡ and_then (field_at n) (λ g. judged_at n f (part_of row.part.place g))
unfolding field_of
verdict_by_the_limits f first k n row found =
    ap (λ o. and_then o (verdict_on n)) (after_answer (find_row (bursts first) f k) (λ r. field_from f r.part.place n) row found)
    ∙ and_then_assoc (field_at n) (λ g. answer (content_of g.stored f (part_of row.part.place g))) (verdict_on n)
    ∙ and_then_agrees_where (field_at n)
    (λ g. verdict_on n (content_of g.stored f (part_of row.part.place g)))
    (λ g. judged_at n f (part_of row.part.place g))
    (λ g is. by_storage n f (part_of row.part.place g) g.stored (no_limits_unless n g is))
