-- The bounds of a code, each named here once. The sources name them once too, as constants of src/limits.rt.
use Rattle.std.specs.Prelude.{ℕ}

-- a code has at least one data column and one check column
abbrev pub least_columns : ℕ
least_columns = 2

abbrev pub most_columns : ℕ
most_columns = 63

abbrev pub most_checks : ℕ
most_checks = 16
