-- The loop that puts row after row: so many rows are listed, their lines stand at their place, and the walk goes on to the
-- rest. `Underway` is its invariant; each way out of a turn is one law.
use Prim.Native.Nat.{ℕ, ◌+◌, ◌*◌, ◌≤◌, ◌<◌}
use native.Mathlib.Omega.{arith}
use mathlib.Core.Path.{◌≡◌, refl, ◌∙◌, sym, ap, ap₂, subst}
use mathlib.Core.List.{List, [], ◌∷◌, ◌++◌, append_assoc, append-nil}
use lib.ListN.{length, length-append, take-append-drop}
use Rattle.answer.specs.Outcome.{answer, refuse}
use Rattle.answer.proofs.Outcomes.{mapped_answer, answer_injective, answer_is_no_refusal}
use Rattle.label.specs.declared.Versions.TheVariants.{One}
use Rattle.label.specs.Head.{four_at}
use Rattle.label.specs.Length.{spaces_at}
use Rattle.walk.specs.declared.Leaf.{Leaf}
use Rattle.sfdu.specs.Row.{Row, value_at}
use Rattle.sfdu.specs.Check.{counting}
use Rattle.walk.specs.Walk.{walk_from}
use Rattle.listing.specs.Listing.{rows_listed, line_of, lines_from, row_lines}
use Rattle.listing.specs.Private.{leaf_text, Puts}
use Rattle.listing.proofs.Putting.{puts_on}
use Rattle.listing.proofs.RowAfterRow.{FindsRow, Finds, finds_rows}
use Rattle.listing.proofs.Listed.{Small, listed_is_small, line_is_short, same_line, lines_append}

pub record Underway (f old : List ℕ) (rows at : ℕ) (out : List ℕ) (end from number : ℕ) : Type 0 where
  pub listed : List Row
  pub rest : List Row
  pub accepted : rows_listed f ≡ answer (listed ++ rest)
  pub total : length (listed ++ rest) ≡ rows
  pub so_many : length listed ≡ number
  pub put : Puts at (lines_from f 0 listed) old end out
  pub short : end ≤ at + 24 * number
  pub as_long : length out ≡ length old
  pub onward : Finds f (walk_from One f from 0) rest

pub sets_out : (f old : List ℕ) (rows at : ℕ) → counting (rows_listed f) ≡ answer rows → Underway f old rows at old at 0 0
sets_out f old rows at e =
    let (rs, is, many) = mapped_answer length (rows_listed f) rows e in
    record {
      listed = [];
      rest = rs;
      accepted = is;
      total = many;
      so_many = refl;
      put = record { ends = omega arith; leaves = sym (take-append-drop at old) };
      short = omega arith;
      as_long = refl;
      onward = let small = listed_is_small f rs is in finds_rows f small.no_larger rs small.scanned;
    }

module _ {f old : List ℕ} {rows at : ℕ} {out : List ℕ} {end from number : ℕ} (u : Underway f old rows at out end from number) where
  -- all rows are listed
  pub arrives : rows ≤ number → Puts at (row_lines f (rows_listed f)) old end out
  arrives h = subst (λ (t : List ℕ). Puts at t old end out) (lines u.rest refl) u.put
    where
      lines : (rs : List Row) → u.rest ≡ rs → lines_from f 0 u.listed ≡ row_lines f (rows_listed f)
      lines [] e = ap (lines_from f 0) (sym (ap (λ (xs : List Row). u.listed ++ xs) e ∙ append-nil u.listed)) ∙ ap (row_lines f) (sym u.accepted)
      lines (r ∷ rs) e = absurd (omega (arith, u.total, u.so_many, length-append u.listed u.rest, ap length e))

  module _ (more : number < rows) where
    -- the next row
    pub record Next : Type 0 where
      pub row : Row
      pub others : List Row
      pub is : u.rest ≡ row ∷ others
      pub finds : FindsRow f (walk_from One f from 0) row
      pub then : Finds f (walk_from One f (value_at row + row.size) 0) others

    next_row : Next
    next_row = next u.rest refl
      where
        next : (rs : List Row) → u.rest ≡ rs → Next
        next [] e = absurd (omega (arith, u.total, u.so_many, length-append u.listed u.rest, ap length e, more))
        next (r ∷ rs) e =
            let found : Finds f (walk_from One f from 0) (r ∷ rs) = subst (Finds f (walk_from One f from 0)) e u.onward in
            record { row = r; others = rs; is = e; finds = found.0; then = found.1 }

    pub never_refused : (n p : ℕ) → refuse n p ≡ walk_from One f from 0 → ⊥
    never_refused n p e = answer_is_no_refusal (sym next_row.finds.found ∙ sym e)

-- a turn that came to a leaf
module _ {f old : List ℕ} {rows at : ℕ} {out : List ℕ} {end from number : ℕ} (u : Underway f old rows at out end from number) (more : number < rows) {leaf : Leaf}
    (walked : answer leaf ≡ walk_from One f from 0) where
  next : Next u more
  next = next_row u more

  rows_are_few : Small f (u.listed ++ u.rest)
  rows_are_few = listed_is_small f (u.listed ++ u.rest) u.accepted

  -- the leaf that the walk came to is the next row
  finds : FindsRow f (walk_from One f from 0) next.row
  finds = next.finds

  same_leaf : finds.leaf ≡ leaf
  same_leaf = answer_injective (sym finds.found ∙ sym walked)

  line_is : leaf_text number leaf ≡ line_of f number next.row
  line_is = ap (leaf_text number) (sym same_leaf) ∙ same_line f (walk_from One f from 0) next.row number finds

  end_is : leaf.place + 20 + leaf.label.length ≡ value_at next.row + next.row.size
  end_is =
      ap (λ (l : Leaf). l.place + 20 + l.label.length) (sym same_leaf)
      ∙ ap₂ (λ (p k : ℕ). p + 20 + k) finds.place finds.size

  pub ends_in_the_file : leaf.place + 20 + leaf.label.length ≤ 65536
  ends_in_the_file = omega (arith, end_is, finds.inside, rows_are_few.small)

  pub line_has_24 : length (leaf_text number leaf) ≤ 24
  line_has_24 =
      omega (
        arith,
        ap length line_is,
        line_is_short number (value_at next.row) next.row.size (four_at f (next.row.label + 8)) (spaces_at f next.row.label)
            (omega (arith, more, u.total, rows_are_few.few)) (omega (arith, finds.inside, rows_are_few.small)) (omega (arith, finds.inside, rows_are_few.small)) refl
            (omega (arith, finds.few, finds.spaces)),
      )

  pub line_has_room : at ≤ 26 → length old ≡ 81920 → end + length (leaf_text number leaf) ≤ length out
  line_has_room h k = omega (arith, h, k, u.as_long, u.short, line_has_24, more, u.total, rows_are_few.few)

  -- its line is put, and the walk goes on after it
  pub turns : {last : ℕ} {new : List ℕ} → at ≤ length old → length new ≡ length out → Puts end (leaf_text number leaf) out last new
      → Underway f old rows at new last (leaf.place + 20 + leaf.label.length) (number + 1)
  turns {last} {new} h same p =
      let r = next.row in
      let all : u.listed ++ u.rest ≡ (u.listed ++ (r ∷ [])) ++ next.others =
      ap (λ (xs : List Row). u.listed ++ xs) next.is ∙ sym (append_assoc u.listed (r ∷ []) next.others) in
      let lines : lines_from f 0 u.listed ++ leaf_text number leaf ≡ lines_from f 0 (u.listed ++ (r ∷ [])) =
      ap (λ (t : List ℕ). lines_from f 0 u.listed ++ t)
      (line_is ∙ ap (λ (k : ℕ). line_of f k r) {x = number} {y = 0 + length u.listed} (omega (arith, u.so_many)) ∙ sym (append-nil (line_of f (0 + length u.listed) r)))
      ∙ sym (lines_append f 0 u.listed (r ∷ [])) in
      record {
        listed = u.listed ++ (r ∷ []);
        rest = next.others;
        accepted = u.accepted ∙ ap answer all;
        total = ap length (sym all) ∙ u.total;
        so_many = length-append u.listed (r ∷ []) ∙ omega (arith, u.so_many);
        put = subst (λ (t : List ℕ). Puts at t old last new) lines (puts_on h u.put p);
        short = omega (arith, p.ends, u.short, line_has_24);
        as_long = same ∙ u.as_long;
        onward = subst (λ (k : ℕ). Finds f (walk_from One f k 0) next.others) (sym end_is) next.then;
      }
