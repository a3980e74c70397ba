-- The label reader case by case, and the two laws by which everything above knows it: a label that was read has twenty
-- bytes, and what is read depends on those twenty bytes alone.
use Prim.Native.Nat.{ℕ, ◌≤◌, ◌<◌}
use native.Mathlib.Omega.{arith}
use mathlib.Core.Path.{◌≡◌, ◌∙◌, sym, ap}
use mathlib.Core.Bool.{true}
use mathlib.Core.List.{List, ◌++◌}
use lib.ListN.{length, take, drop, length-append}
use lib.Seq.{take-append-le}
use native.Mathlib.Decide.{dec_le}
use native.Mathlib.Nat.{lt_of_not-le}
use borrow.Author.Tests.{le-leb, lt-leb}
use Rattle.answer.specs.Outcome.{answer, refuse, need}
use Rattle.label.specs.declared.Version.{Version}
use Rattle.label.specs.declared.Versions.{Versions}
use Rattle.label.specs.Head.{head_good}
use Rattle.label.specs.Length.{length_of}
use Rattle.label.specs.declared.Label.{Label}
use Rattle.label.specs.Label.{label_as, label_of, with_length, read_label}

module _ (version : Version) (b : List ℕ) where
  pub good_head : head_good version b ≡ true → label_as version b ≡ with_length version b (length_of version (drop 12 b))
  good_head h = ap (λ t. need t 2 (with_length version b (length_of version (drop 12 b)))) h

module _ (versions : Versions) where
  pub short_is_refused : (s : List ℕ) → length s < 20 → read_label versions s ≡ refuse 1 0
  unfolding read_label
  short_is_refused s h = ap (λ t. need t 1 (label_of versions (take 20 s))) (lt-leb _ _ h)

  pub twenty_bytes_are_read : (s : List ℕ) → 20 ≤ length s → read_label versions s ≡ label_of versions (take 20 s)
  unfolding read_label
  twenty_bytes_are_read s h = ap (λ t. need t 1 (label_of versions (take 20 s))) (le-leb _ _ h)

  -- a label that was read has twenty bytes
  pub read_has_20_bytes : (s : List ℕ) (l : Label) → read_label versions s ≡ answer l → 20 ≤ length s
  read_has_20_bytes s l e =
      elim (dec_le 20 (length s)) [
        | yes h ↦ h
        | no h ↦ let z : ◌≡◌ {A = ℕ} 0 1 = cc (short_is_refused s (lt_of_not-le h)) in absurd (omega arith)
      ]

  -- what is read depends on those twenty bytes alone: whatever follows them changes nothing
  pub read_depends_on_20_bytes : (s t : List ℕ) → 20 ≤ length s → read_label versions (s ++ t) ≡ read_label versions s
  read_depends_on_20_bytes s t h =
      twenty_bytes_are_read (s ++ t) (omega (arith, length-append s t))
      ∙ ap (label_of versions) (take-append-le 20 s t h)
      ∙ sym (twenty_bytes_are_read s h)
