-- The rules of the limit tables, each computed over all of their lines: a line is found by its number, so that no number
-- stands twice; the limits themselves are inside (document 01); and document 01's own lines stand in the altimeter's.
use mathlib.Core.Path.{◌≡◌, refl}
use mathlib.Core.List.{List, [], ◌∷◌, map}
use lib.IntN.{pos}
use Rattle.answer.specs.Outcome.{answer}
use Rattle.limits.specs.AltimeterLimits.{element, minus, altimeter_table}
use Rattle.limits.specs.BurstLimits.{burst_table}
use Rattle.limits.specs.Limits.{table_of}
use Rattle.limits.specs.declared.Limit.{Limit}
use Rattle.limits.specs.declared.Table.{Table}
use Rattle.limits.specs.declared.Table.TheVariants.{Altimeter, Bursts}
use Rattle.verdicts.specs.declared.Side.TheVariants.{Inside}
use Rattle.verdicts.specs.Verdict.{limits_of, verdict_of}

pub each_is_found_by_its_number : (t : Table) → map (λ l. limits_of (table_of t) l.number) (table_of t) ≡ map answer (table_of t)
unfolding altimeter_table burst_table
each_is_found_by_its_number Altimeter = refl
each_is_found_by_its_number Bursts = refl

pub minimums_are_inside : (t : Table) → map (λ l. verdict_of t l.number l.minimum) (table_of t) ≡ map (λ l. answer Inside) (table_of t)
unfolding altimeter_table burst_table
minimums_are_inside Altimeter = refl
minimums_are_inside Bursts = refl

pub maximums_are_inside : (t : Table) → map (λ l. verdict_of t l.number l.maximum) (table_of t) ≡ map (λ l. answer Inside) (table_of t)
unfolding altimeter_table burst_table
maximums_are_inside Altimeter = refl
maximums_are_inside Bursts = refl

-- document 01's lines, in its order
abbrev pub listed : List Limit
listed =
    element 8 (minus 32_768) (pos 32_767) ∷
    element 9 (minus 32_768) (pos 32_767) ∷
    element 10 (minus 32_768) (pos 32_767) ∷
    element 143 (minus 32_768) (pos 32_767) ∷
    element 11 (minus 2_721) (pos 10_200) ∷
    element 12 (minus 2_000) (pos 9_999) ∷
    element 13 (minus 2_000) (pos 9_999) ∷
    element 14 (minus 2_000) (pos 9_999) ∷
    element 15 (minus 2_000) (pos 9_999) ∷
    element 16 (minus 2_000) (pos 9_999) ∷
    element 81 (pos 0) (pos 17) ∷
    element 84 (pos 0) (pos 16) ∷
    element 85 (pos 0) (pos 16) ∷
    element 86 (pos 0) (pos 255) ∷
    element 87 (pos 0) (pos 255) ∷
    element 141 (minus 2_000) (pos 2_000) ∷
    element 142 (pos 1_323_000_000) (pos 1_363_000_000) ∷
    []

pub listed_stand_in_the_table : map (λ l. limits_of (table_of Altimeter) l.number) listed ≡ map answer listed
unfolding altimeter_table
listed_stand_in_the_table = refl
