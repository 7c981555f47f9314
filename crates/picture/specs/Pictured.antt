-- The picture of a parity check matrix: a table with a cell for each column.
use Rattle.std.specs.Prelude.{ℕ, ◌-◌, max, cond, List, ◌∷◌, ◌++◌, map, fold, length, codes, decimal, replicate}
use Rattle.std.specs.List.{flat_map, range_with_len}
use Rattle.code.specs.Search.{among}
use Rattle.code.specs.Words.{bit}

abbrev pub blanks : ℕ → List ℕ
blanks n = replicate n 32

-- a cell is a blank, and then a text at the right end of `width` characters
unfoldable pub cell : ℕ → List ℕ → List ℕ
cell width text = 32 ∷ (blanks (width - length text) ++ text)

-- a label is a text at the left end of six characters, as many as `column` has
unfoldable pub label : List ℕ → List ℕ
label text = text ++ blanks (6 - length text)

-- a cell for each number
abbrev pub number_cells : ℕ → List ℕ → List ℕ
number_cells width ns = flat_map (λ n. cell width (decimal n)) ns

-- row i of the matrix: bit i of each column value
abbrev pub row_of : ℕ → List ℕ → List ℕ
row_of i vs = map (λ v. bit v i) vs

-- the length of the longest numeral
abbrev pub widest : List ℕ → ℕ
widest ns = fold (λ most n. max most (length (decimal n))) 0 ns

-- d for a data column, and c for a check column
abbrev pub kind : List ℕ → ℕ → List ℕ
kind dataColumns j = cond (among dataColumns j) (codes "d") (codes "c")

-- the same as the codes of the letters
abbrev pub letter : List ℕ → ℕ → ℕ
letter dataColumns j = cond (among dataColumns j) 100 99

-- the kinds of the columns j, j + 1, .., as many as k
abbrev pub kind_cells : ℕ → List ℕ → ℕ → ℕ → List ℕ
kind_cells width dataColumns k j = flat_map (λ i. cell width (kind dataColumns i)) (range_with_len j k)

unfoldable pub number_line : List ℕ → ℕ → List ℕ → List ℕ
number_line name width ns = label name ++ number_cells width ns

-- the lines of the rows i, i + 1, .., as many as k, each on a new line
abbrev pub row_lines : ℕ → List ℕ → ℕ → ℕ → List ℕ
row_lines width values k i = flat_map (λ j. 10 ∷ number_line (codes "row " ++ decimal j) width (row_of j values)) (range_with_len i k)

-- the width of the widest number of the table
unfoldable pub table_width : List ℕ → ℕ
table_width values = max (widest (range_with_len 0 (length values))) (widest values)

-- the column numbers, the rows from the top, the column values, and the kinds
unfoldable pub pictured : List ℕ → List ℕ → ℕ → List ℕ
pictured values dataColumns rows =
    number_line (codes "column") (table_width values) (range_with_len 0 (length values))
    ++ (row_lines (table_width values) values rows 0
    ++ ((10 ∷ number_line (codes "value") (table_width values) values)
    ++ (10 ∷ (label (codes "kind") ++ kind_cells (table_width values) dataColumns (length values) 0))))
