-- Whole rows, for every kind of file: a file has a row exactly where reading answers, and what is answered is the row of the division.
use Prim.Native.Nat.{ℕ}
use native.Mathlib.Nat.{lt_of_not-le}
use native.Mathlib.Decide.{dec_le}
use native.Mathlib.Omega.{arith}
use mathlib.Core.Path.{◌≡◌, refl, ◌∙◌, sym, ap}
use mathlib.Core.Bool.{Bool, true, false}
use mathlib.Core.List.{List, map}
use lib.ListN.{length, drop, length-drop}
use lib.Seq.{length-take-le}
use lib.Dec.{ltb}
use borrow.Author.Tests.{lt-ltb, le-ltb}
use Rattle.answer.specs.Outcome.{Outcome, answer, refuse, and_then, mapped}
use Rattle.answer.specs.Nth.{nth}
use Rattle.answer.specs.declared.Shown.{Shown}
use Rattle.answer.proofs.Outcomes.{first_answered}
use Rattle.answer.proofs.Nths.{nth_is_there, nth_is_not, nth_of_map}
use Rattle.reader.specs.Rows.{row_parts, check_file, row_of}
use Rattle.reader.specs.Read.{find_row}
use Rattle.reader.specs.Demand2.{Division, Divides, bytes_in}
use Rattle.reader.specs.Demand3.{shown_bytes}
use Rattle.reader.specs.declared.Kind.{Kind}
use Rattle.reader.proofs.Found.{row_inside}
use Rattle.reader.proofs.Rows.{reads_the_rows}
use Rattle.reader.proofs.Demand2.{demand_2}
use Rattle.reader.proofs.Filling.{row_filled}
use Rattle.substitute.specs.Substitute.{has}
use Rattle.substitute.specs.Serving.{ShowsRow}

-- whether something is answered
abbrev pub answers : {A : Type 0} → Outcome A → Bool
answers (answer a) = true
answers (refuse n p) = false

module _ {A : Type 0} where
  there_where_answered : (xs : List A) (k : ℕ) → ltb k (length xs) ≡ answers (nth xs k)
  there_where_answered xs k =
      elim (dec_le (length xs) k) [
        | yes h ↦ le-ltb k (length xs) h ∙ sym (ap answers (nth_is_not xs k h))
        | no h ↦
            let (x, e) = nth_is_there xs k (lt_of_not-le h) in
            lt-ltb k (length xs) (lt_of_not-le h) ∙ sym (ap answers e)
      ]

  has_where_answered : (o : Outcome (List A)) (k : ℕ) → has (mapped length o) k ≡ answers (and_then o (λ xs. nth xs k))
  has_where_answered (answer xs) k = there_where_answered xs k
  has_where_answered (refuse n p) k = refl

module _ (kind : Kind) (f : List ℕ) (k : ℕ) where
  -- what reading answers or refuses is the row as demand 2 gives it
  pub found_is_row : {o : Outcome Shown} → o ≡ find_row kind f k → row_of kind f k ≡ o
  found_is_row found = sym (found ∙ reads_the_rows kind f k)

  pub has_where_read : has (check_file kind f) k ≡ answers (row_of kind f k)
  unfolding row_of
  has_where_read = ap (λ (o : Outcome ℕ). has o k) (demand_2 kind f).counts ∙ has_where_answered (row_parts kind f) k

  -- the bytes of a row that is shown are those of the row in the division
  bytes_of_the_row : (row : Shown) → row_of kind f k ≡ answer row → (d : Division kind) → Divides kind f d → nth (bytes_in kind d) k ≡ answer (shown_bytes f row)
  unfolding row_of
  bytes_of_the_row row e d divides =
      let (rows, found, at) = first_answered (row_parts kind f) (λ rs. nth rs k) row e in
      let (small, (other, divided, are)) = ((demand_2 kind f).rows_are rows).0 found in
      let same : d ≡ other = (demand_2 kind f).only_one d other divides divided in
      let by_rows : bytes_in kind d ≡ map (shown_bytes f) rows = ap (bytes_in kind) same ∙ sym ((demand_2 kind f).values_are other divided) ∙ ap (map (shown_bytes f)) are in
      ap (λ (bs : List (List ℕ)). nth bs k) by_rows ∙ nth_of_map (shown_bytes f) rows k ∙ ap (mapped (shown_bytes f)) at

  pub shows_the_row : (row : Shown) → row_of kind f k ≡ answer row → ShowsRow kind f k row
  shows_the_row row e =
      let found = reads_the_rows kind f k ∙ e in
      record {
        is_row = e;
        address = row_filled kind f k row found;
        size = length-take-le row.part.count (drop row.part.place f) (omega (arith, length-drop row.part.place f, row_inside kind f k row found));
        bytes = bytes_of_the_row row e;
      }
