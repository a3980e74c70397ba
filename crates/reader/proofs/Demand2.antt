-- Demand 2, whole: one statement over every kind of file. It rests on the theorems of the kinds: `sfdu`'s `accepted_exactly`,
-- `only_one_forest` and `bytes_are_values`, and `fixed_rows`' `rows_are_divided`, `only_one_way` and `bytes_are_shown`.
use Prim.Native.Nat.{ℕ, suc, ◌≤◌}
use mathlib.Core.Path.{◌≡◌, refl, ◌∙◌, sym, ap}
use mathlib.Core.Logic.{◌↔◌}
use mathlib.Core.List.{List, [], ◌∷◌, map}
use lib.ListN.{length}
use Rattle.answer.specs.Outcome.{Outcome, answer, refuse, mapped}
use Rattle.answer.specs.Size.{largest_file}
use Rattle.answer.specs.Window.{bytes_at}
use Rattle.answer.specs.declared.Shown.{Shown}
use Rattle.answer.proofs.Outcomes.{mapped_answer}
use Rattle.label.specs.declared.Versions.{Versions}
use Rattle.sfdu.specs.Row.{Row, whole, row_bytes}
use Rattle.sfdu.specs.Forest.{Forest, leaves}
use Rattle.sfdu.specs.Check.{rows_of_file, check_labelled}
use Rattle.sfdu.proofs.Exact.{DividesFile, accepted_exactly, only_one_forest}
use Rattle.sfdu.proofs.Values.{bytes_are_values}
use Rattle.fixed_rows.specs.Check.{count_rows}
use Rattle.fixed_rows.proofs.Framing.{rows_are_divided, counts_rows, only_one_way, bytes_are_shown}
use Rattle.waveform.specs.Rows.{waveform}
use Rattle.waveform.proofs.Rows as waveform_rows
use Rattle.bursts.specs.Rows.{bursts}
use Rattle.bursts.proofs.Rows as burst_rows
use Rattle.reader.specs.declared.Kind.{Kind}
use Rattle.reader.specs.declared.Kind.TheVariants.{Labelled, Waveform, Bursts}
use Rattle.reader.specs.Rows.{row_parts, check_file}
use Rattle.reader.specs.Demand2.{Division, together, Sound, rows_in, Divides, Demand2}

-- ---- labelled files

module _ (v : Versions) (f : List ℕ) where
  -- a forest that divides the file, as the grammar says it
  by_grammar : (F : Forest) → Divides (Labelled v) f F → DividesFile v f (leaves 1 (λ at. at) 0 F) F
  by_grammar F d = record { bytes = d.bytes; valid = d.sound; rows_are = refl }

  labelled_exactly : (rows : List Shown)
      → (row_parts (Labelled v) f ≡ answer rows) ↔ ((length f ≤ largest_file) × ((F : Forest) × Divides (Labelled v) f F × (rows_in (Labelled v) F ≡ rows)))
  unfolding row_parts
  labelled_exactly rows = (
    (λ e.
        let (rs, found, is) = mapped_answer (map whole) (rows_of_file v f) rows e in
        let (small, (F, d)) = (accepted_exactly v f rs).0 found in
        (small, (F, record { bytes = d.bytes; sound = d.valid }, ap (map whole) d.rows_are ∙ is))),
    (λ q.
        let (F, d, is) = q.1 in
        ap (mapped (map whole)) ((accepted_exactly v f (leaves 1 (λ at. at) 0 F)).1 (q.0, (F, by_grammar F d))) ∙ ap answer is),
  )

map_of_map : (f : List ℕ) (rows : List Row) → map (λ (p : Shown). bytes_at f p.part.place p.part.count) (map whole rows) ≡ map (row_bytes f) rows
map_of_map f [] = refl
map_of_map f (r ∷ rs) = ap (λ (xs : List (List ℕ)). row_bytes f r ∷ xs) (map_of_map f rs)

length_of_map : (rows : List Row) → length (map whole rows) ≡ length rows
length_of_map [] = refl
length_of_map (r ∷ rs) = ap suc (length_of_map rs)

labelled_counts : (o : Outcome (List Row)) → mapped length o ≡ mapped length (mapped (map whole) o)
labelled_counts (answer rows) = ap answer (sym (length_of_map rows))
labelled_counts (refuse n p) = refl

-- ---- demand 2

-- the rows are those of a division, from the same said of its bytes and its pieces apart
divided_exactly_from : (kind : Kind) (f : List ℕ) (rows : List Shown)
    → (row_parts kind f ≡ answer rows)
    ↔ ((length f ≤ largest_file) × ((d : Division kind) × Sound kind d × (together kind d ≡ f) × (rows_in kind d ≡ rows)))
    → (row_parts kind f ≡ answer rows) ↔ ((length f ≤ largest_file) × ((d : Division kind) × Divides kind f d × (rows_in kind d ≡ rows)))
divided_exactly_from kind f rows exactly = (
  (λ e.
      let (small, (d, sound, bytes, is)) = exactly.0 e in
      (small, (d, record { bytes = bytes; sound = sound }, is))),
  (λ q.
      let (d, divides, is) = q.1 in
      exactly.1 (q.0, (d, divides.sound, divides.bytes, is))),
)

-- what is accepted, from what the rows are and that the check counts them
accepted_exactly_from : (kind : Kind) (f : List ℕ)
    → ((rows : List Shown) → (row_parts kind f ≡ answer rows) ↔ ((length f ≤ largest_file) × ((d : Division kind) × Divides kind f d × (rows_in kind d ≡ rows))))
    → check_file kind f ≡ mapped length (row_parts kind f)
    → (n : ℕ)
    → (check_file kind f ≡ answer n) ↔ ((length f ≤ largest_file) × ((d : Division kind) × Divides kind f d × (length (rows_in kind d) ≡ n)))
accepted_exactly_from kind f rows_are counts n = (
  (λ e.
      let (rows, found, many) = mapped_answer length (row_parts kind f) n (sym counts ∙ e) in
      let (small, (d, divides, is)) = (rows_are rows).0 found in
      (small, (d, divides, ap length is ∙ many))),
  (λ q.
      let (d, divides, many) = q.1 in
      counts ∙ ap (mapped length) ((rows_are (rows_in kind d)).1 (q.0, (d, divides, refl))) ∙ ap answer many),
)

pub demand_2 : (kind : Kind) (f : List ℕ) → Demand2 kind f
unfolding check_file check_labelled row_parts
demand_2 (Labelled v) f = record {
  accepted = accepted_exactly_from (Labelled v) f (labelled_exactly v f) (labelled_counts (rows_of_file v f));
  rows_are = labelled_exactly v f;
  counts = labelled_counts (rows_of_file v f);
  only_one = λ F G d e. only_one_forest v F G d.sound e.sound (d.bytes ∙ sym e.bytes);
  values_are = λ F d. map_of_map f (leaves 1 (λ at. at) 0 F) ∙ bytes_are_values v f (leaves 1 (λ at. at) 0 F) F (by_grammar v f F d);
}
demand_2 Waveform f = record {
  accepted = accepted_exactly_from Waveform f (λ rows. divided_exactly_from Waveform f rows (rows_are_divided waveform waveform_rows.takes_bytes f rows)) (counts_rows waveform (count_rows waveform f));
  rows_are = λ rows. divided_exactly_from Waveform f rows (rows_are_divided waveform waveform_rows.takes_bytes f rows);
  counts = counts_rows waveform (count_rows waveform f);
  only_one = λ c d p q. only_one_way waveform waveform_rows.takes_bytes c d p.sound q.sound (p.bytes ∙ sym q.bytes);
  values_are = λ d p. bytes_are_shown waveform f d p.sound p.bytes;
}
demand_2 (Bursts first) f = record {
  accepted = accepted_exactly_from (Bursts first) f (λ rows. divided_exactly_from (Bursts first) f rows (rows_are_divided (bursts first) (burst_rows.takes_bytes first) f rows)) (counts_rows (bursts first) (count_rows (bursts first) f));
  rows_are = λ rows. divided_exactly_from (Bursts first) f rows (rows_are_divided (bursts first) (burst_rows.takes_bytes first) f rows);
  counts = counts_rows (bursts first) (count_rows (bursts first) f);
  only_one = λ c d p q. only_one_way (bursts first) (burst_rows.takes_bytes first) c d p.sound q.sound (p.bytes ∙ sym q.bytes);
  values_are = λ d p. bytes_are_shown (bursts first) f d p.sound p.bytes;
}
