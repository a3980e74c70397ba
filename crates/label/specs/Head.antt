-- Bytes 0-11 of a label (document 01, the table of "The label": bytes 0-3 the agency, 4 the version, 5 the class,
-- 6-7 `00`, 8-11 the description; document 02, item 11: "its byte 4 must agree"). Characters are ASCII: `A` is 65, `Z` 90, `0` 48.
use Rattle.std.specs.Prelude.{ℕ, ◌+◌, Bool, ◌&&◌, ◌||◌, List, [], ◌∷◌, length, get_or, leb, eqb}
use Rattle.text.specs.Digits.{is_digit}
use Rattle.label.specs.declared.Version.{Version}
use Rattle.label.specs.Version.{version_byte}

-- how many bytes a label has, and how many of them stand before its length field
abbrev pub label_size : ℕ
label_size = 20

abbrev pub head_size : ℕ
head_size = 12

-- one of `A` to `Z`
abbrev pub is_capital : ℕ → Bool
is_capital b = leb 65 b && leb b 90

-- four characters from place i on
abbrev pub four_at : List ℕ → ℕ → List ℕ
four_at s i = get_or s i 0 ∷ get_or s (i + 1) 0 ∷ get_or s (i + 2) 0 ∷ get_or s (i + 3) 0 ∷ []

-- the four characters are these
abbrev pub spells : List ℕ → ℕ → ℕ → ℕ → ℕ → Bool
spells f a b c d = eqb (get_or f 0 0) a && eqb (get_or f 1 0) b && (eqb (get_or f 2 0) c && eqb (get_or f 3 0) d)

-- `NJPL` or `CCSD`
abbrev pub is_agency : List ℕ → Bool
is_agency f = spells f 78 74 80 76 || spells f 67 67 83 68

-- one of `A` to `Z`, or a digit
abbrev pub is_code : ℕ → Bool
is_code b = is_capital b || is_digit b

-- each an upper-case letter or digit
abbrev pub is_description : List ℕ → Bool
is_description f = is_code (get_or f 0 0) && is_code (get_or f 1 0) && (is_code (get_or f 2 0) && is_code (get_or f 3 0))

-- bytes 4 to 7: the version, the class, `00`
abbrev pub is_form : Version → List ℕ → Bool
is_form version f = eqb (get_or f 0 0) (version_byte version) && is_capital (get_or f 1 0) && (eqb (get_or f 2 0) 48 && eqb (get_or f 3 0) 48)

-- bytes 0-11 are as the table says, in a label of this version
abbrev pub head_good : Version → List ℕ → Bool
head_good version s = is_agency (four_at s 0) && (is_form version (four_at s 4) && is_description (four_at s 8))

-- these are bytes 0-11 of a label of this version ("a count other than twelve is 2")
abbrev pub is_head : Version → List ℕ → Bool
is_head version head = eqb (length head) head_size && head_good version head
