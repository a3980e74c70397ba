-- The scan one object at a time: bytes that are passed are dropped, so after an object the scan stands at the next label.
-- Everything about labelled files is proved from `at_the_end` and `one_object`.
use Prim.Native.Nat.{ℕ, zero, suc, ◌+◌, ◌-◌, ◌≤◌, ◌<◌}
use native.Mathlib.Nat.{add-zero, not-suc-le-zero}
use native.Mathlib.Omega.{arith}
use mathlib.Core.Path.{◌≡◌, refl, ◌∙◌, sym, ap, ap₂, subst}
use mathlib.Core.List.{List, [], ◌∷◌, ◌++◌}
use lib.ListN.{length, take, drop}
use lib.Dec.{leb}
use borrow.Author.Tests.{le-leb, lt-leb, leb-true}
use Rattle.answer.specs.Outcome.{answer, refuse, and_then}
use Rattle.answer.proofs.Outcomes.{and_then_agrees, first_answered, passed, answer_injective}
use Rattle.label.specs.declared.Versions.{Versions}
use Rattle.label.proofs.Reading.{read_has_20_bytes}
use Rattle.label.specs.declared.Label.{Label}
use Rattle.label.specs.Label.{read_label}
use Rattle.label.specs.Opened.{is_opened}
use Rattle.sfdu.specs.Row.{Row}
use Rattle.sfdu.specs.Scan.{Inside, object, rows_of, level}

pub one_more : (n : ℕ) → suc (19 + n) ≡ 20 + n
one_more n = omega arith

-- which versions of the label are allowed
module _ (versions : Versions) where
  -- an object that was taken: its label was read, and its value fits
  pub record Taken (s : List ℕ) (l : Label) : Type 0 where
    pub reads : read_label versions s ≡ answer l
    pub long : 20 ≤ length s
    pub fits : l.length ≤ length s - 20

  pub taken : (s : List ℕ) (l : Label) → object versions s ≡ answer l → Taken s l
  unfolding object
  taken s l e =
      let (m, reads, then-fits) = first_answered (read_label versions s) _ l e in
      let (fits, is) = passed 0 (leb m.length (length s - 20)) 4 (answer m) l then-fits in
      let same : m ≡ l = answer_injective is in
      record {
        reads = reads ∙ ap answer same;
        long = read_has_20_bytes versions s m reads;
        fits = subst (λ (k : Label). k.length ≤ length s - 20) same (leb-true _ _ fits);
      }

  -- and the other way round
  pub takes : (s : List ℕ) (l : Label) → read_label versions s ≡ answer l → l.length ≤ length s - 20 → object versions s ≡ answer l
  unfolding object
  takes s l e h = rw (e, le-leb l.length (length s - 20) h)

  pub value_too_long : (s : List ℕ) (l : Label) → read_label versions s ≡ answer l → length s - 20 < l.length → object versions s ≡ refuse 4 0
  unfolding object
  value_too_long s l e h = rw (e, lt-leb l.length (length s - 20) h)

  pub label_not_read : (s : List ℕ) (n p : ℕ) → read_label versions s ≡ refuse n p → object versions s ≡ refuse n p
  unfolding object
  label_not_read s n p e = rw e

  module _ (inside : Inside) (depth : ℕ) (outermost : ℕ → ℕ) where
    pub at_the_end : (at : ℕ) (found : List Row) (passed : ℕ) → level versions inside depth outermost at found passed [] ≡ answer found
    unfolding level
    at_the_end at found passed = refl

    pub passed_is_dropped : (at : ℕ) (found : List Row) (k : ℕ) (s : List ℕ)
        → level versions inside depth outermost at found k s ≡ level versions inside depth outermost (at + k) found 0 (drop k s)
    unfolding level
    passed_is_dropped at found zero s = ap (λ (p : ℕ). level versions inside depth outermost p found 0 s) (sym (add-zero at))
    passed_is_dropped at found (suc k) [] = refl
    passed_is_dropped at found (suc k) (b ∷ bs) =
        passed_is_dropped (suc at) found k bs
        ∙ ap (λ (p : ℕ). level versions inside depth outermost p found 0 (drop k bs)) (omega arith)

    module _ (at : ℕ) (found : List Row) where
      -- an object that cannot be taken is reported at its place
      pub bad_object : (s : List ℕ) → 0 < length s → (n p : ℕ) → object versions s ≡ refuse n p
          → level versions inside depth outermost at found 0 s ≡ refuse n at
      unfolding level
      bad_object [] h n p e = absurd (not-suc-le-zero h)
      bad_object (b ∷ bs) h n p e = rw e

      -- else its rows are found, and the scan goes on after it
      pub one_object : (s : List ℕ) → 0 < length s → (l : Label) → object versions s ≡ answer l
          → level versions inside depth outermost at found 0 s
          ≡ and_then (rows_of inside depth (outermost at) at (is_opened l.class) l.length (take l.length (drop 20 s)))
          (λ rows. level versions inside depth outermost (at + (20 + l.length)) (found ++ rows) 0 (drop (20 + l.length) s))
      unfolding level
      one_object [] h l e = absurd (not-suc-le-zero h)
      one_object (b ∷ bs) h l e =
          rw e
          (and_then_agrees
          (rows_of inside depth (outermost at) at (is_opened l.class) l.length (take l.length (drop 20 (b ∷ bs)))) _ _
          λ rows. passed_is_dropped (suc at) (found ++ rows) (19 + l.length) bs
          ∙ ap₂ (λ (p : ℕ) (t : List ℕ). level versions inside depth outermost p (found ++ rows) 0 t) (omega arith)
          (ap (λ (k : ℕ). drop k (b ∷ bs)) (one_more l.length)))
