-- The column values of a drawn matrix.
use Rattle.std.specs.Prelude.{◌≡◌, ℕ, zero, suc, ◌+◌, ◌^◌, ◌<◌, Bool, cond, List, length, map, replicate, slice_index}
use Rattle.std.specs.List.{zip}

-- each column value with 2^i more where row i holds a one
abbrev pub stacked : ℕ → List ℕ → List Bool → List ℕ
stacked i values row = map (λ (p : ℕ × Bool). p.0 + cond p.1 (2 ^ i) 0) (zip values row)

-- each value is below m, which is above 0
abbrev pub AllBelow : ℕ → List ℕ → Type 0
AllBelow m values = (j : ℕ) → slice_index values j < m

-- what a row is drawn under: before the first row, a blank column for each digit of it
abbrev pub above : ℕ → List ℕ → List Bool → List ℕ
above zero values row = replicate (length row) 0
above (suc rows) values row = values

-- a row is drawn under `rows` rows whose columns have these values; `rows'` and `values'` are what is drawn then
pub record Stacks (rows : ℕ) (values : List ℕ) (row : List Bool) (rows' : ℕ) (values' : List ℕ) : Type 0 where
  pub taller : rows' ≡ rows + 1
  pub wide : 0 < rows → length row ≡ length values
  pub gains : values' ≡ stacked rows (above rows values row) row
