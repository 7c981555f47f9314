-- The bound of a drawing; the sources name it once too, in src/drawing.rt.
use Rattle.std.specs.Prelude.{ℕ}

-- so that a column value fits 64 bits
abbrev pub most_rows : ℕ
most_rows = 63
