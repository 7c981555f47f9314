-- The bounds of error classes, each named here once. The sources name them once too, as constants of src/limits.rt. The width of a class has the bounds of a code's columns.
use Rattle.std.specs.Prelude.{ℕ}

abbrev pub most_patterns : ℕ
most_patterns = 1000000

abbrev pub most_ones : ℕ
most_ones = 3

abbrev pub least_run : ℕ
least_run = 2

abbrev pub most_run : ℕ
most_run = 8

abbrev pub most_items : ℕ
most_items = 8
