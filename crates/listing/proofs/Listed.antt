-- The rows of a listed file and their lines: there are few of them, each line is short, and the line of the leaf that a walk
-- came to is the line of its row.
use Prim.Native.Nat.{ℕ, suc, ◌+◌, ◌*◌, ◌≤◌, ◌<◌}
use native.Mathlib.Nat.{add-zero}
use native.Mathlib.Omega.{arith}
use mathlib.Core.Path.{◌≡◌, ◌∙◌, sym, ap}
use mathlib.Core.List.{List, [], ◌∷◌, ◌++◌, append_assoc}
use lib.ListN.{length, length-append}
use lib.Dec.{leb}
use borrow.Author.Tests.{leb-true}
use Rattle.answer.specs.Outcome.{Outcome, answer}
use Rattle.answer.specs.Size.{largest_file}
use Rattle.answer.proofs.Outcomes.{passed}
use Rattle.label.specs.declared.Versions.TheVariants.{One}
use Rattle.walk.specs.declared.Leaf.{Leaf}
use Rattle.sfdu.specs.Row.{Row, value_at}
use Rattle.sfdu.specs.Scan.{scan}
use Rattle.sfdu.specs.Check.{rows_of_file}
use Rattle.sfdu.proofs.Checking.{accepted_says}
use Rattle.text.specs.Decimal.{decimal_text}
use Rattle.text.proofs.Unpadded.{few_bytes}
use Rattle.listing.specs.Line.{end_text, row_text}
use Rattle.listing.specs.Listing.{rows_listed, line_of, lines_from}
use Rattle.listing.specs.Private.{leaf_text}
use Rattle.listing.proofs.FewRows.{few_rows}
use Rattle.listing.proofs.RowAfterRow.{FindsRow}

-- a file that is listed
pub record Small (f : List ℕ) (rows : List Row) : Type 0 where
  pub small : length f ≤ 65536
  pub no_larger : length f ≤ largest_file
  pub scanned : scan One f ≡ answer rows
  pub few : length rows * 20 ≤ 65536

pub listed_is_small : (f : List ℕ) (rows : List Row) → rows_listed f ≡ answer rows → Small f rows
unfolding rows_listed
listed_is_small f rows e =
    let (small, is) = passed 0 (leb (length f) 65536) 14 (rows_of_file One f) rows e in
    let scanned = (accepted_says One f rows is).1 in
    let bound : length f ≤ 65536 = leb-true _ _ small in
    record { small = bound; no_larger = omega arith; scanned = scanned; few = omega (arith, bound, few_rows f rows scanned) }

-- at most four digits, five, five and one, and nine other characters
pub line_is_short : (number place size : ℕ) (d : List ℕ) (spaces : ℕ) → number < 10000 → place < 100000 → size < 100000 → length d ≡ 4 → spaces < 10
    → length (row_text number place size d spaces) ≤ 24
line_is_short number place size d spaces h k l e m =
    let tail : List ℕ = end_text d spaces in
    omega (
      arith,
      few_bytes 3 number h,
      few_bytes 4 place k,
      few_bytes 4 size l,
      few_bytes 0 spaces m,
      length-append (decimal_text number) (32 ∷ (decimal_text place ++ (32 ∷ (decimal_text size ++ tail)))),
      length-append (decimal_text place) (32 ∷ (decimal_text size ++ tail)),
      length-append (decimal_text size) tail,
      length-append d (32 ∷ (decimal_text spaces ++ (10 ∷ []))),
      length-append (decimal_text spaces) (10 ∷ []),
      e,
    )

-- the line of the leaf that was found is the row's
pub same_line : (f : List ℕ) (o : Outcome Leaf) (r : Row) (number : ℕ) → (found : FindsRow f o r) → leaf_text number found.leaf ≡ line_of f number r
same_line f o r number found =
    let place : found.leaf.place + 20 ≡ value_at r = omega (arith, found.place) in
    rw (place, found.size, found.description, found.spaces)

-- the lines of rows set end to end
pub lines_append : (f : List ℕ) (number : ℕ) (xs ys : List Row) → lines_from f number (xs ++ ys) ≡ lines_from f number xs ++ lines_from f (number + length xs) ys
lines_append f number [] ys = ap (λ (k : ℕ). lines_from f k ys) (sym (add-zero number))
lines_append f number (r ∷ xs) ys =
    ap (λ (t : List ℕ). line_of f number r ++ t) (lines_append f (suc number) xs ys)
    ∙ sym (append_assoc (line_of f number r) (lines_from f (suc number) xs) (lines_from f (suc number + length xs) ys))
    ∙ ap (λ (k : ℕ). (line_of f number r ++ lines_from f (suc number) xs) ++ lines_from f k ys) {x = suc number + length xs} {y = number + suc (length xs)} (omega arith)
