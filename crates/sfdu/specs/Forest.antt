-- The grammar of labelled files: objects side by side, each a leaf with its value or an opened object with what is inside
-- (document 01: "A file, and each class Z value, must divide exactly", with the classes that document 02, item 3, opens;
-- "labels of any class may stand at depths 1 to 8").
-- A file divides, with no gap or overlap, when a valid forest has exactly its bytes.
use Rattle.std.specs.Prelude.{ℕ, zero, suc, ◌+◌, ◌≡◌, Bool, true, false, List, [], ◌∷◌, ◌++◌, length}
use Rattle.answer.specs.Outcome.{answer}
use Rattle.label.specs.declared.Label.{Label}
use Rattle.label.specs.declared.Versions.{Versions}
use Rattle.label.specs.Head.{label_size}
use Rattle.label.specs.Label.{read_label}
use Rattle.label.specs.Opened.{is_opened}
use Rattle.sfdu.specs.Row.{Row}

pub data Forest : Type 0 where
  done : Forest
  leaf : (label value : List ℕ) (rest : Forest) → Forest
  group : (label : List ℕ) (inside rest : Forest) → Forest

-- its bytes, end to end
abbrev pub encode : Forest → List ℕ
encode done = []
encode (leaf label value rest) = label ++ (value ++ encode rest)
encode (group label inside rest) = label ++ (encode inside ++ encode rest)

-- which versions of the label are allowed: a forest may mix them
module _ (versions : Versions) where
  -- twenty bytes that are a label with this length, of a class that is opened or not
  pub record IsLabel (bytes : List ℕ) (opened : Bool) (size : ℕ) : Type 0 where
    pub twenty : length bytes ≡ label_size
    pub label : Label
    pub reads : read_label versions bytes ≡ answer label
    pub class : is_opened label.class ≡ opened
    pub follows : label.length ≡ size

  -- each label is one, says how long its value is, and stands at one of `left` depths
  abbrev pub Valid : ℕ → Forest → Type 0
  Valid zero done = Unit
  Valid zero (leaf label value rest) = ⊥
  Valid zero (group label inside rest) = ⊥
  Valid (suc left) done = Unit
  Valid (suc left) (leaf label value rest) = IsLabel label false (length value) × Valid (suc left) rest
  Valid (suc left) (group label inside rest) = IsLabel label true (length (encode inside)) × Valid left inside × Valid (suc left) rest

-- its leaves in file order, as rows: at this depth, from this place on
abbrev pub leaves : ℕ → (ℕ → ℕ) → ℕ → Forest → List Row
leaves depth outermost at done = []
leaves depth outermost at (leaf label value rest) =
    record { label = at; size = length value; depth = depth; outermost = outermost at }
    ∷ leaves depth outermost (at + (label_size + length value)) rest
leaves depth outermost at (group label inside rest) =
    leaves (suc depth) (λ _. outermost at) (at + label_size) inside
    ++ leaves depth outermost (at + (label_size + length (encode inside))) rest

-- the values of its leaves, in file order
abbrev pub values : Forest → List (List ℕ)
values done = []
values (leaf label value rest) = value ∷ values rest
values (group label inside rest) = values inside ++ values rest
