-- The lines of the two tables, and what an answer about one stands for.
use Rattle.std.specs.Prelude.{List, [], ◌∷◌, Option, Some, None}
use Rattle.limits.specs.declared.Limit.{Limit}
use Rattle.limits.specs.declared.Table.{Table}
use Rattle.limits.specs.declared.Table.TheVariants.{Altimeter, Bursts}
use Rattle.limits.specs.AltimeterLimits.{altimeter_table}
use Rattle.limits.specs.BurstLimits.{burst_table}

abbrev pub table_of : Table → List Limit
table_of Altimeter = altimeter_table
table_of Bursts = burst_table

-- the line that was read, or none past the last
abbrev pub line_of : Option Limit → List Limit
line_of (Some l) = l ∷ []
line_of None = []
