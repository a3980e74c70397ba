-- The length field, bytes 12-19 of a label (document 01: "the number of bytes after the label"; document 02, item 2: "zero or
-- more spaces followed by one or more digits, eight bytes together", and item 11: in version 2 "an unsigned binary number in bytes
-- 12-19, most significant first"). This is the one place that says which fields are read and as what. A space is 32.
use Rattle.std.specs.Prelude.{ℕ, suc, ◌+◌, ◌*◌, Bool, true, false, List, [], ◌∷◌, take, drop, eqb, Option, None, Some}
use Rattle.text.specs.Digits.{decimal}
use Rattle.label.specs.declared.Length.{Length}
use Rattle.label.specs.declared.Version.{Version}
use Rattle.label.specs.declared.Version.TheVariants.{One, Two}
use Rattle.label.specs.Head.{head_size}

-- how many bytes a length field has
abbrev pub field_size : ℕ
field_size = 8

-- one space more than so many, or none where the byte is no space
abbrev pub one_more : Bool → ℕ → ℕ
one_more true n = suc n
one_more false n = 0

-- how many spaces stand in front
abbrev pub spaces_in : List ℕ → ℕ
spaces_in [] = 0
spaces_in (b ∷ bs) = one_more (eqb b 32) (spaces_in bs)

-- the number that one or more digits write; none where there is no byte, or one that is no digit
abbrev pub number_in : List ℕ → Option ℕ
number_in [] = None
number_in (b ∷ bs) = decimal 0 (b ∷ bs)

-- a number behind so many spaces
abbrev pub after : ℕ → Option ℕ → Option Length
after spaces (Some n) = Some (record { bytes = n; spaces = spaces })
after spaces None = None

-- the number that n and then these bytes are, most significant first
abbrev pub binary : ℕ → List ℕ → ℕ
binary n [] = n
binary n (b ∷ bs) = binary (n * 256 + b) bs

-- the rule for the length field, by the label's version: spaces in front, and behind them one or more digits and nothing else;
-- or a binary number, whatever the bytes are
abbrev pub length_of : Version → List ℕ → Option Length
length_of One field = after (spaces_in field) (number_in (drop (spaces_in field) field))
length_of Two field = Some (record { bytes = binary 0 field; spaces = 0 })

-- how many spaces the version 1 label at place `at` of a file has, for the listing's last column
abbrev pub spaces_at : List ℕ → ℕ → ℕ
spaces_at f at = spaces_in (take field_size (drop (at + head_size) f))
