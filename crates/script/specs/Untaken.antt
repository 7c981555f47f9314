-- Why a drawn row is not taken.
use Rattle.std.specs.Prelude.{◌≡◌, ℕ, ◌<◌, ◌≤◌, ◌≢◌}
use Rattle.script.specs.Limits.{most_rows}
use Rattle.script.specs.declared.fault.Fault.{Fault}
use Rattle.script.specs.declared.fault.Fault.TheVariants.{Memory, RowWidth, TooManyRows}

-- a row of `width` digits is not taken under `rows` rows of `columns` columns: it is one row too many,
-- or it is not as wide as the rows above, or memory ran out
abbrev pub Untaken : ℕ → ℕ → ℕ → Fault → Type 0
Untaken rows columns width Memory = Unit {0}
Untaken rows columns width TooManyRows = most_rows ≤ rows
Untaken rows columns width (RowWidth d a) = (0 < rows) × (d ≡ width) × (a ≡ columns) × (width ≢ columns)
Untaken rows columns width e = ⊥
