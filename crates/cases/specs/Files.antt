-- The labelled files of document 01's cases, byte for byte in ASCII.
use Rattle.std.specs.Prelude.{ℕ, List, [], ◌∷◌, ◌++◌}

-- CCSD1Z000001 00000043
abbrev pub outer43 : List ℕ
outer43 = 67 ∷ 67 ∷ 83 ∷ 68 ∷ 49 ∷ 90 ∷ 48 ∷ 48 ∷ 48 ∷ 48 ∷ 48 ∷ 49 ∷ 48 ∷ 48 ∷ 48 ∷ 48 ∷ 48 ∷ 48 ∷ 52 ∷ 51 ∷ []

-- CCSD1Z000001 00000042
abbrev pub outer42 : List ℕ
outer42 = 67 ∷ 67 ∷ 83 ∷ 68 ∷ 49 ∷ 90 ∷ 48 ∷ 48 ∷ 48 ∷ 48 ∷ 48 ∷ 49 ∷ 48 ∷ 48 ∷ 48 ∷ 48 ∷ 48 ∷ 48 ∷ 52 ∷ 50 ∷ []

-- NJPL1I00DEMO 00000003
abbrev pub inner3 : List ℕ
inner3 = 78 ∷ 74 ∷ 80 ∷ 76 ∷ 49 ∷ 73 ∷ 48 ∷ 48 ∷ 68 ∷ 69 ∷ 77 ∷ 79 ∷ 48 ∷ 48 ∷ 48 ∷ 48 ∷ 48 ∷ 48 ∷ 48 ∷ 51 ∷ []

-- NJPL1I00DEMO 00000024
abbrev pub inner24 : List ℕ
inner24 = 78 ∷ 74 ∷ 80 ∷ 76 ∷ 49 ∷ 73 ∷ 48 ∷ 48 ∷ 68 ∷ 69 ∷ 77 ∷ 79 ∷ 48 ∷ 48 ∷ 48 ∷ 48 ∷ 48 ∷ 48 ∷ 50 ∷ 52 ∷ []

-- NJPL1I00DEMO 00000000
abbrev pub inner0 : List ℕ
inner0 = 78 ∷ 74 ∷ 80 ∷ 76 ∷ 49 ∷ 73 ∷ 48 ∷ 48 ∷ 68 ∷ 69 ∷ 77 ∷ 79 ∷ 48 ∷ 48 ∷ 48 ∷ 48 ∷ 48 ∷ 48 ∷ 48 ∷ 48 ∷ []

-- abc
abbrev pub abc : List ℕ
abc = 97 ∷ 98 ∷ 99 ∷ []

-- the 63 bytes of document 01's list program
abbrev pub sixty_three : List ℕ
sixty_three = outer43 ++ (inner3 ++ (abc ++ inner0))

-- the same with outer length 42 (case 4), and with first inner length 24 (case 5)
abbrev pub shorter_outside : List ℕ
shorter_outside = outer42 ++ (inner3 ++ (abc ++ inner0))

abbrev pub longer_inside : List ℕ
longer_inside = outer43 ++ (inner24 ++ (abc ++ inner0))

-- what the list program prints for the 63 bytes (document 02, item 2): `rows 2`, `0 40 3 DEMO 0`, `1 63 0 DEMO 0`, each line ended
-- by byte 10
abbrev pub printed : List ℕ
printed = 114 ∷ 111 ∷ 119 ∷ 115 ∷ 32 ∷ 50 ∷ 10 ∷ 48 ∷ 32 ∷ 52 ∷ 48 ∷ 32 ∷ 51 ∷ 32 ∷ 68 ∷ 69 ∷ 77 ∷ 79 ∷ 32 ∷ 48 ∷ 10 ∷ 49 ∷ 32 ∷ 54 ∷ 51 ∷ 32 ∷ 48 ∷ 32 ∷ 68 ∷ 69 ∷ 77 ∷ 79 ∷ 32 ∷ 48 ∷ 10 ∷ []
