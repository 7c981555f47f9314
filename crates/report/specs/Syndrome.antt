-- The syndrome of a word, for a code with the column values cs and the data columns ds, as bytes.
use Rattle.std.specs.Prelude.{ℕ, List, codes}
use Rattle.code.specs.Codes.{rows, syndrome}
use Rattle.picture.specs.Drawn.{value_drawn}

-- the syndrome, and its rows drawn
abbrev pub syndrome_drawn : List ℕ → List ℕ → ℕ → List ℕ
syndrome_drawn cs ds word = value_drawn (codes "rows") (rows cs ds) (syndrome cs word)
