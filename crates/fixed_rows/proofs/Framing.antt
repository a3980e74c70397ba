-- What a file of rows of one size is: bytes in front, and rows set end to end. The check accepts exactly such files within the size limit,
-- with the right count; a file is such rows in one way only, and its bytes at row k are those of the k-th.
use Prim.Native.Nat.{ℕ, zero, suc, ◌+◌, ◌*◌, ◌≤◌, ◌<◌}
use native.Mathlib.Nat.{mul-suc, mul-zero}
use native.Mathlib.Omega.{arith}
use mathlib.Core.Path.{◌≡◌, refl, ◌∙◌, sym, ap, ap₂}
use mathlib.Core.Logic.{◌↔◌}
use mathlib.Core.List.{List, [], ◌∷◌, ◌++◌, map}
use lib.ListN.{length, take, drop, length-append, length-take, length-drop, take-append-drop}
use lib.Seq.{take_at, drop_at, drop-drop}
use Rattle.answer.specs.Outcome.{Outcome, answer, refuse, mapped}
use Rattle.answer.specs.Size.{largest_file}
use Rattle.answer.specs.Window.{bytes_at}
use Rattle.answer.specs.declared.Shown.{Shown}
use Rattle.answer.proofs.Outcomes.{mapped_answer}
use Rattle.fixed_rows.specs.Shape.{Shape, step}
use Rattle.fixed_rows.specs.Check.{row_count}
use Rattle.fixed_rows.specs.Jump.{start_of}
use Rattle.fixed_rows.specs.Rows.{rows_from, row_parts, Row, IsRow, AreRows, end_to_end, Division, IsDivision, together, rows_in, bytes_in}
use Rattle.fixed_rows.proofs.Accepted.{accepted_is_whole, whole_is_accepted}

-- n rows are n
pub length_of_rows : (s : Shape) (n k : ℕ) → length (rows_from s k n) ≡ n
length_of_rows s zero k = refl
length_of_rows s (suc n) k = ap suc (length_of_rows s n (suc k))

module _ (s : Shape) where
  -- each row takes its bytes
  end_to_end_size : (rs : List Row) → AreRows s rs → length (end_to_end rs) ≡ step s * length rs
  end_to_end_size [] all = sym (mul-zero (step s))
  end_to_end_size (r ∷ rs) all =
      simp length-append
      (omega (arith, end_to_end_size rs all.1, all.0.passed_size, all.0.shown_size, mul-suc (step s) (length rs)))

  -- ---- a row at the front of some bytes

  module _ (r : Row) (rest : List ℕ) (is : IsRow s r) where
    shown_after_passed : drop s.skip (r.passed ++ (r.shown ++ rest)) ≡ r.shown ++ rest
    shown_after_passed = drop_at r.passed (r.shown ++ rest) s.skip is.passed_size

    front_passed : take s.skip (r.passed ++ (r.shown ++ rest)) ≡ r.passed
    front_passed = take_at r.passed (r.shown ++ rest) s.skip is.passed_size

    front_shown : take s.size (drop s.skip (r.passed ++ (r.shown ++ rest))) ≡ r.shown
    front_shown = ap (take s.size) shown_after_passed ∙ take_at r.shown rest s.size is.shown_size

    front_rest : drop (step s) (r.passed ++ (r.shown ++ rest)) ≡ rest
    front_rest =
        sym (drop-drop s.size s.skip (r.passed ++ (r.shown ++ rest)))
        ∙ ap (drop s.size) shown_after_passed ∙ drop_at r.shown rest s.size is.shown_size

  -- ---- one way only

  module _ (some : 0 < step s) where
    one_way_of_rows : (rs qs : List Row) → AreRows s rs → AreRows s qs → end_to_end rs ≡ end_to_end qs → rs ≡ qs
    one_way_of_rows [] [] a b e = refl
    one_way_of_rows [] (q ∷ qs) a b e =
        absurd (omega (arith, some, ap length e ∙ end_to_end_size (q ∷ qs) b, mul-suc (step s) (length qs)))
    one_way_of_rows (r ∷ rs) [] a b e =
        absurd (omega (arith, some, sym (ap length e) ∙ end_to_end_size (r ∷ rs) a, mul-suc (step s) (length rs)))
    one_way_of_rows (r ∷ rs) (q ∷ qs) a b e =
        let passed : r.passed ≡ q.passed =
        sym (front_passed r (end_to_end rs) a.0) ∙ ap (take s.skip) e ∙ front_passed q (end_to_end qs) b.0 in
        let shown : r.shown ≡ q.shown =
        sym (front_shown r (end_to_end rs) a.0) ∙ ap (λ (t : List ℕ). take s.size (drop s.skip t)) e ∙ front_shown q (end_to_end qs) b.0 in
        let rest : end_to_end rs ≡ end_to_end qs =
        sym (front_rest r (end_to_end rs) a.0) ∙ ap (drop (step s)) e ∙ front_rest q (end_to_end qs) b.0 in
        ap₂ ◌∷◌ (ap₂ (λ (p t : List ℕ). record { passed = p; shown = t }) passed shown) (one_way_of_rows rs qs a.1 b.1 rest)

    pub only_one_way : (d e : Division) → IsDivision s d → IsDivision s e → together d ≡ together e → d ≡ e
    only_one_way d e a b same =
        let front : d.front ≡ e.front =
        sym (take_at d.front (end_to_end d.rows) s.first a.front_size)
        ∙ ap (take s.first) same ∙ take_at e.front (end_to_end e.rows) s.first b.front_size in
        let rows : end_to_end d.rows ≡ end_to_end e.rows =
        sym (drop_at d.front (end_to_end d.rows) s.first a.front_size)
        ∙ ap (drop s.first) same ∙ drop_at e.front (end_to_end e.rows) s.first b.front_size in
        ap₂ (λ (f : List ℕ) (rs : List Row). record { front = f; rows = rs }) front
        (one_way_of_rows d.rows e.rows a.are_rows b.are_rows rows)

  -- ---- the bytes of the file at each row

  rows_shown : (f : List ℕ) (rs : List Row) → AreRows s rs → (k : ℕ) → drop (start_of s.first (step s) k) f ≡ end_to_end rs
      → map (λ (p : Shown). bytes_at f p.part.place p.part.count) (rows_from s k (length rs)) ≡ map (λ (r : Row). r.shown) rs
  rows_shown f [] all k e = refl
  rows_shown f (r ∷ rs) all k e =
      let start = start_of s.first (step s) k in
      let next : start_of s.first (step s) (suc k) ≡ start + step s = omega (arith, mul-suc (step s) k) in
      ap₂ ◌∷◌
      (ap (take s.size) (sym (drop-drop s.skip start f) ∙ ap (drop s.skip) e) ∙ front_shown r (end_to_end rs) all.0)
      (rows_shown f rs all.1 (suc k)
      (ap (λ (n : ℕ). drop n f) next ∙ sym (drop-drop (step s) start f) ∙ ap (drop (step s)) e ∙ front_rest r (end_to_end rs) all.0))

  pub bytes_are_shown : (f : List ℕ) (d : Division) → IsDivision s d → together d ≡ f
      → map (λ (p : Shown). bytes_at f p.part.place p.part.count) (rows_in s d) ≡ bytes_in d
  bytes_are_shown f d is e =
      rows_shown f d.rows is.are_rows 0
      (ap (λ (n : ℕ). drop n f) {x = start_of s.first (step s) 0} {y = s.first} (omega (arith, mul-zero (step s)))
      ∙ ap (drop s.first) (sym e) ∙ drop_at d.front (end_to_end d.rows) s.first is.front_size)

  -- ---- exactly such files

  -- n rows' bytes divide into n rows
  divides : (n : ℕ) (f : List ℕ) → length f ≡ step s * n → (rs : List Row) × (length rs ≡ n) × AreRows s rs × (end_to_end rs ≡ f)
  divides zero [] e = ([], refl, tt, refl)
  divides zero (b ∷ bs) e = absurd (omega (arith, e, mul-zero (step s)))
  divides (suc n) f e =
      let big : step s ≤ length f = omega (arith, e, mul-suc (step s) n) in
      let rest = divides n (drop (step s) f) (simp length-drop (omega (arith, e, mul-suc (step s) n))) in
      let first : Row = record { passed = take s.skip f; shown = take s.size (drop s.skip f) } in
      let is : IsRow s first = record { passed_size = simp length-take (omega (arith, big)); shown_size = simp (length-take, length-drop) (omega (arith, big)) } in (
        first ∷ rest.0,
        ap suc rest.1,
        (is, rest.2),
        ap (λ (t : List ℕ). take s.skip f ++ (take s.size (drop s.skip f) ++ t))
            (rest.3 ∙ sym (drop-drop s.size s.skip f))
            ∙ ap (λ (t : List ℕ). take s.skip f ++ t) (take-append-drop s.size (drop s.skip f))
            ∙ take-append-drop s.skip f,
      )

  module _ (some : 0 < step s) (f : List ℕ) where
    -- a file that was accepted divides
    divided : (n : ℕ) → row_count s.first (step s) f ≡ answer n
        → (d : Division) × IsDivision s d × (together d ≡ f) × (length d.rows ≡ n)
    divided n e =
        let whole = (accepted_is_whole s.first (step s) f n e).rows in
        let (rs, many, all, bytes) = divides n (drop s.first f) (simp length-drop (omega (arith, whole))) in (
          record { front = take s.first f; rows = rs },
          record { front_size = simp length-take (omega (arith, whole)); are_rows = all },
          ap (λ (t : List ℕ). take s.first f ++ t) bytes ∙ take-append-drop s.first f,
          many,
        )

    -- and one that divides and is not too large was accepted
    accepts : (d : Division) → IsDivision s d → together d ≡ f → length f ≤ largest_file
        → row_count s.first (step s) f ≡ answer (length d.rows)
    accepts d is e small =
        let size : length f ≡ length d.front + length (end_to_end d.rows) = ap length (sym e) ∙ length-append d.front (end_to_end d.rows) in
        whole_is_accepted s.first (step s) some f (length d.rows)
        (record { within = small; rows = omega (arith, size, is.front_size, end_to_end_size d.rows is.are_rows) })

    -- the rows are those of the division, within the size limit
    pub rows_are_divided : (rows : List Shown)
        → (row_parts s f ≡ answer rows)
        ↔ ((length f ≤ largest_file) × ((d : Division) × IsDivision s d × (together d ≡ f) × (rows_in s d ≡ rows)))
    rows_are_divided rows = (
      (λ e.
          let (n, counted, is) = mapped_answer (rows_from s 0) (row_count s.first (step s) f) rows e in
          let (d, sound, bytes, many) = divided n counted in
          ((accepted_is_whole s.first (step s) f n counted).within, (d, sound, bytes, ap (rows_from s 0) many ∙ is))),
      (λ q.
          let (d, sound, bytes, is) = q.1 in
          ap (mapped (rows_from s 0)) (accepts d sound bytes q.0) ∙ ap answer is),
    )

  -- the check counts these rows
  pub counts_rows : (o : Outcome ℕ) → o ≡ mapped length (mapped (rows_from s 0) o)
  counts_rows (answer n) = ap answer (sym (length_of_rows s n 0))
  counts_rows (refuse n p) = refl
