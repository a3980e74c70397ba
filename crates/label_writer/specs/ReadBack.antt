-- Demand 2's "a label we write reads back the same", whole, for both versions (document 01; document 02, item 2: "The writer
-- still writes digits only", so that a label that was written has no spaces, and item 11: "demand 2's reading back [supposes a
-- choice] that allows the version"). A length is a 64-bit number, as it is by its type in every call.
use Rattle.std.specs.Prelude.{ℕ, ◌≤◌, ◌<◌, ◌^◌, ◌≡◌, true, List, ◌++◌, take}
use Rattle.answer.specs.Outcome.{answer}
use Rattle.label.specs.declared.Version.{Version}
use Rattle.label.specs.declared.Versions.{Versions}
use Rattle.label.specs.Version.{allows}
use Rattle.label.specs.Head.{label_size, head_size}
use Rattle.label.specs.declared.Label.{Label}
use Rattle.label.specs.Label.{labelled, read_label}
use Rattle.label_writer.specs.Write.{write_label}

-- the same label with no spaces
abbrev pub without_spaces : Label → Label
without_spaces l =
    record { agency = l.agency; version = l.version; class = l.class; description = l.description; length = l.length; spaces = 0 }

pub record ReadsBack : Type 0 where
  -- what was written, whatever stands behind it, reads back with the version, the bytes and the length that it was given and 0
  -- spaces
  pub written : (version : Version) (head : List ℕ) (n room : ℕ) (w : List ℕ) → write_label version head n room ≡ answer w → n < 2 ^ 64
      → (versions : Versions) → allows versions version ≡ true → (rest : List ℕ)
      → read_label versions (w ++ rest) ≡ answer (labelled version head n 0)
  -- every label that the reader can answer is written again from its own version, bytes 0-11 and length, and reads back as the
  -- same label with 0 spaces
  pub again : (told : Versions) (s : List ℕ) (l : Label) → read_label told s ≡ answer l → l.length < 2 ^ 64 → (room : ℕ) → label_size ≤ room
      → (w : List ℕ) × (write_label l.version (take head_size s) l.length room ≡ answer w)
      × ((versions : Versions) → allows versions l.version ≡ true → (rest : List ℕ) → read_label versions (w ++ rest) ≡ answer (without_spaces l))
