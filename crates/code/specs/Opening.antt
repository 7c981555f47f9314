-- Which column values cs and data column numbers ds are refused, and why.
use Rattle.std.specs.Prelude.{ℕ, zero, suc, ◌+◌, ◌^◌, ◌<◌, ◌≤◌, Bool, true, false, not, ◌&&◌, ◌||◌, ◌⊎◌, List, length, Some, None, Option, nat_le, nat_lt, slice_index}
use Rattle.code.specs.Limits.{least_columns, most_columns, most_checks}
use Rattle.code.specs.Search.{least, is_none, among}
use Rattle.code.specs.Codes.{rows, Shape, Narrow, Units, check_column, check_columns}
use Rattle.code.specs.declared.refusal.Refusal.{Refusal}
use Rattle.code.specs.declared.refusal.Refusal.TheVariants.{ColumnCount, OutOfBounds, OutOfBoundsAt, DataColumn, ColumnValue, NotUnits, CorrectableClash, DetectableClash, WidthsDiffer, BeyondEnd, TooWide, TooWideAt, LostCell, ShortTable, CampaignFull}

-- one above the data column number before the i-th, 0 for the first
abbrev pub floor : List ℕ → ℕ → ℕ
floor ds zero = 0
floor ds (suc i) = slice_index ds i + 1

-- ---- the refusals in words

-- the i-th data column number is below n and above the one before
abbrev pub GoodColumn : ℕ → List ℕ → ℕ → Type 0
GoodColumn n ds i = (slice_index ds i < n) × (floor ds i ≤ slice_index ds i)

-- the first m data column numbers are good
abbrev pub GoodColumns : List ℕ → List ℕ → ℕ → Type 0
GoodColumns cs ds m = (i : ℕ) → i < m → GoodColumn (length cs) ds i

-- what each refusal of an opening says; an opening refuses nothing else
abbrev pub Refused : List ℕ → List ℕ → Refusal → Type 0
Refused cs ds ColumnCount = (length cs < least_columns) ⊎ (most_columns < length cs)
Refused cs ds OutOfBounds = (least_columns ≤ length cs) × (length cs ≤ most_columns) × ((length ds < 1) ⊎ ((length cs ≤ length ds) ⊎ (most_checks < rows cs ds)))
Refused cs ds (DataColumn i) = Shape (length cs) (length ds) × (i < length ds) × (GoodColumn (length cs) ds i → ⊥) × GoodColumns cs ds i
Refused cs ds (ColumnValue j) = Shape (length cs) (length ds) × GoodColumns cs ds (length ds) × (j < length cs) × (2 ^ rows cs ds ≤ slice_index cs j) × ((i : ℕ) → i < j → slice_index cs i < 2 ^ rows cs ds)
Refused cs ds NotUnits = Shape (length cs) (length ds) × GoodColumns cs ds (length ds) × Narrow cs ds × (Units cs ds → ⊥)
Refused cs ds (OutOfBoundsAt i) = ⊥
Refused cs ds (CorrectableClash c) = ⊥
Refused cs ds (DetectableClash c) = ⊥
Refused cs ds WidthsDiffer = ⊥
Refused cs ds BeyondEnd = ⊥
Refused cs ds TooWide = ⊥
Refused cs ds (TooWideAt i) = ⊥
Refused cs ds LostCell = ⊥
Refused cs ds ShortTable = ⊥
Refused cs ds CampaignFull = ⊥

-- ---- the same, computed

abbrev pub bad_column : ℕ → List ℕ → ℕ → Bool
bad_column n ds i = not (nat_lt (slice_index ds i) n && nat_le (floor ds i) (slice_index ds i))

-- the value of column j needs more than r rows
abbrev pub high_value : ℕ → List ℕ → ℕ → Bool
high_value r cs j = nat_le (2 ^ r) (slice_index cs j)

-- row i has no check column
abbrev pub bare_row : List ℕ → List ℕ → ℕ → Bool
bare_row cs ds i = is_none (check_column cs ds i)

-- column j is neither a data column nor the check column of a row
abbrev pub spare_column : List ℕ → List ℕ → ℕ → Bool
spare_column cs ds j = not (among ds j || among (check_columns cs ds) j)

-- rows and check columns go together one to one
abbrev pub units : List ℕ → List ℕ → Bool
units cs ds = is_none (least (bare_row cs ds) 0 (rows cs ds)) && is_none (least (spare_column cs ds) 0 (length cs))

-- a refusal unless the test holds; else what the later tests say
abbrev pub unless : Bool → Refusal → Option Refusal → Option Refusal
unless true e later = later
unless false e later = Some e

-- a refusal with the index that was found; else what the later tests say
abbrev pub found_at : Option ℕ → (ℕ → Refusal) → Option Refusal → Option Refusal
found_at None e later = later
found_at (Some i) e later = Some (e i)

-- the first refusal, in the order of their numbers; None where cs and ds make a code
abbrev pub refusal : List ℕ → List ℕ → Option Refusal
refusal cs ds = let n = length cs in let k = length ds in
    unless (nat_le least_columns n && nat_le n most_columns) ColumnCount
    (unless (nat_le 1 k && (nat_lt k n && nat_le (rows cs ds) most_checks)) OutOfBounds
    (found_at (least (bad_column n ds) 0 k) DataColumn
    (found_at (least (high_value (rows cs ds) cs) 0 n) ColumnValue
    (unless (units cs ds) NotUnits None))))
