-- The picture of a parity check matrix with the columns marked that two patterns strike.
use Rattle.std.specs.Prelude.{ℕ, cond, List, [], ◌∷◌, ◌++◌, length, codes, ◌==◌}
use Rattle.std.specs.List.{flat_map, range_with_len}
use Rattle.code.specs.Words.{bit}
use Rattle.picture.specs.Pictured.{cell, label, pictured, table_width}

-- the character below column j: ^ where the pattern strikes the column, and a dot elsewhere
abbrev pub mark : ℕ → ℕ → ℕ
mark pattern j = cond (bit pattern j == 1) 94 46

-- the marks below the columns j, j + 1, .., as many as k
abbrev pub mark_cells : ℕ → ℕ → ℕ → ℕ → List ℕ
mark_cells width pattern k j = flat_map (λ i. cell width (mark pattern i ∷ [])) (range_with_len j k)

-- the line that marks the columns, n of them, that a pattern of this name strikes
unfoldable pub mark_line : List ℕ → ℕ → ℕ → ℕ → List ℕ
mark_line name width n pattern = label name ++ mark_cells width pattern n 0

-- the matrix, and below it a line for the pattern p and a line for the pattern q
unfoldable pub marked : List ℕ → List ℕ → ℕ → ℕ → ℕ → List ℕ
marked values dataColumns rows p q =
    pictured values dataColumns rows
    ++ ((10 ∷ mark_line (codes "p") (table_width values) (length values) p)
    ++ (10 ∷ mark_line (codes "q") (table_width values) (length values) q))
