-- Every sixteenth row: which row stands behind an entry of the index, and how many entries there are.
use Prim.Native.Nat.{ℕ, zero, suc, ◌+◌, ◌-◌, ◌*◌, ◌/◌, ◌≤◌}
use native.Mathlib.Nat.{suc-add}
use native.Mathlib.Omega.{arith}
use mathlib.Core.Path.{◌≡◌, ◌∙◌, sym, ap}
use mathlib.Core.List.{List, [], ◌∷◌}
use lib.ListN.{length, get_or}
use Rattle.answer.specs.Outcome.{answer}
use Rattle.answer.specs.Nth.{nth}
use Rattle.answer.proofs.Outcomes.{answer_injective, answer_is_no_refusal}
use Rattle.sfdu.specs.Row.{Row}
use Rattle.row_index.specs.Index.{every}

-- after n rows that are passed, entry i is the place of the label of row n + 16 i
pub entry_is_a_row : (rows : List Row) (n i : ℕ) (r : Row) → nth rows (n + 16 * i) ≡ answer r → get_or (every n rows) i 0 ≡ r.label
entry_is_a_row [] n i p e = absurd (answer_is_no_refusal (sym e))
entry_is_a_row (r ∷ rs) (suc n) i p e = entry_is_a_row rs n i p (ap (nth (r ∷ rs)) (sym (suc-add n (16 * i))) ∙ e)
entry_is_a_row (r ∷ rs) zero zero p e = ap (λ (q : Row). q.label) (answer_injective e)
entry_is_a_row (r ∷ rs) zero (suc i) p e = entry_is_a_row rs 15 i p (ap (nth (r ∷ rs)) {x = suc (15 + 16 * i)} {y = 0 + 16 * suc i} (omega arith) ∙ e)

-- how many entries: one for each started group of sixteen
pub groups_after : (rows : List Row) (n : ℕ) → n ≤ 15 → length (every n rows) ≡ (length rows + 15 - n) / 16
groups_after [] n h = omega arith
groups_after (r ∷ rs) zero h = ap suc (groups_after rs 15 (omega arith)) ∙ omega arith
groups_after (r ∷ rs) (suc n) h = groups_after rs n (omega arith) ∙ omega arith

pub one_entry_a_group : (rows : List Row) → length (every 0 rows) ≡ (length rows + 15) / 16
one_entry_a_group rows = groups_after rows 0 (omega arith) ∙ omega arith
