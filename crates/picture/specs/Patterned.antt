-- The picture of error patterns: a table with a line for each pattern and a cell for each column.
use Rattle.std.specs.Prelude.{ℕ, List, ◌∷◌, ◌++◌, map, length, codes, decimal, slice_index}
use Rattle.std.specs.List.{flat_map, range_with_len}
use Rattle.code.specs.Words.{bit}
use Rattle.picture.specs.Pictured.{number_line, widest}

-- the lowest n bits of a pattern, bit 0 first
abbrev pub bits_of : ℕ → ℕ → List ℕ
bits_of n pattern = map (bit pattern) (range_with_len 0 n)

-- the pattern at the place i: its place, its bits in n columns, and the pattern in decimal
unfoldable pub pattern_line : ℕ → ℕ → ℕ → ℕ → List ℕ
pattern_line width n i pattern = number_line (decimal i) width (bits_of n pattern) ++ (codes " = " ++ decimal pattern)

-- the lines of the patterns i, i + 1, .., as many as k, each on a new line
abbrev pub pattern_lines : ℕ → ℕ → List ℕ → ℕ → ℕ → List ℕ
pattern_lines width n ps k i = flat_map (λ j. 10 ∷ pattern_line width n j (slice_index ps j)) (range_with_len i k)

-- the width of the widest column number
abbrev pub column_width : ℕ → ℕ
column_width n = widest (range_with_len 0 n)

-- the numbers of n columns, and under them a line for each pattern
unfoldable pub patterned : List ℕ → ℕ → List ℕ
patterned ps n = number_line (codes "column") (column_width n) (range_with_len 0 n) ++ pattern_lines (column_width n) n ps (length ps) 0
