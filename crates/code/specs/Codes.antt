-- A code by its column values cs and its data column numbers ds: n columns, k of them data columns, r = n - k rows.
use Rattle.std.specs.Prelude.{◌≡◌, ℕ, ◌-◌, ◌^◌, ◌<◌, ◌≤◌, Bool, not, ◌&&◌, List, map, length, Option, ◌==◌, ◌≢◌, bit_xor, slice_index}
use Rattle.std.specs.List.{range_with_len}
use Rattle.std.specs.Option.{unwrap_or}
use Rattle.code.specs.Limits.{least_columns, most_columns, most_checks}
use Rattle.code.specs.Words.{combine, gather, place}
use Rattle.code.specs.Search.{least, among}

-- how many rows there are
abbrev pub rows : List ℕ → List ℕ → ℕ
rows cs ds = length cs - length ds

-- the xor of the values of the columns whose bit in w is one
abbrev pub syndrome : List ℕ → ℕ → ℕ
syndrome cs w = combine cs w

-- w is a code word of the data word d: those data bits, and syndrome zero
abbrev pub Encodes : List ℕ → List ℕ → ℕ → ℕ → Type 0
Encodes cs ds d w = (w < 2 ^ length cs) × (gather ds w ≡ d) × (syndrome cs w ≡ 0)

-- ---- what makes a code

abbrev pub Shape : ℕ → ℕ → Type 0
Shape n k = (least_columns ≤ n) × (n ≤ most_columns) × (1 ≤ k) × (k < n) × (n - k ≤ most_checks)

-- each of js is a column
abbrev pub Inside : List ℕ → List ℕ → Type 0
Inside cs js = (i : ℕ) → i < length js → slice_index js i < length cs

abbrev pub Rising : List ℕ → Type 0
Rising ds = (i j : ℕ) → i < j → j < length ds → slice_index ds i < slice_index ds j

-- no value needs more than the r rows
abbrev pub Narrow : List ℕ → List ℕ → Type 0
Narrow cs ds = (j : ℕ) → j < length cs → slice_index cs j < 2 ^ rows cs ds

-- j is none of js
abbrev pub Beside : List ℕ → ℕ → Type 0
Beside js j = (i : ℕ) → i < length js → slice_index js i ≢ j

-- column j is a check column: one of the n, and no data column
abbrev pub Check : List ℕ → List ℕ → ℕ → Type 0
Check cs ds j = (j < length cs) × Beside ds j

-- the check columns hold the units 1, 2, 4 .. 2 ^ (r - 1), each once, in any order
pub record Units (cs ds : List ℕ) : Type 0 where
  pub some_unit : (j : ℕ) → Check cs ds j → (i : ℕ) × (i < rows cs ds) × (slice_index cs j ≡ 2 ^ i)
  pub some_check : (i : ℕ) → i < rows cs ds → (j : ℕ) × Check cs ds j × (slice_index cs j ≡ 2 ^ i)
  pub once : (i j : ℕ) → Check cs ds i → Check cs ds j → slice_index cs i ≡ slice_index cs j → i ≡ j

pub record Wellformed (cs ds : List ℕ) : Type 0 where
  pub shape : Shape (length cs) (length ds)
  pub inside : Inside cs ds
  pub rising : Rising ds
  pub narrow : Narrow cs ds
  pub units : Units cs ds

-- ---- the same of a list us that names the check column of each row, as a code value holds it

-- none of us is a data column
abbrev pub Aside : List ℕ → List ℕ → Type 0
Aside ds us = (i : ℕ) → i < length us → Beside ds (slice_index us i)

-- the i-th of us holds the unit of row i
abbrev pub Holding : List ℕ → List ℕ → Type 0
Holding cs us = (i : ℕ) → i < length us → slice_index cs (slice_index us i) ≡ 2 ^ i

-- the i-th of us is a check column, and holds the unit of row i
abbrev pub Row : List ℕ → List ℕ → List ℕ → ℕ → Type 0
Row cs ds us i = Check cs ds (slice_index us i) × (slice_index cs (slice_index us i) ≡ 2 ^ i)

-- us leaves no check column out
abbrev pub Covered : List ℕ → List ℕ → List ℕ → Type 0
Covered cs ds us = (j : ℕ) → j < length cs → Beside ds j → Beside us j → ⊥

-- what every code value keeps of its column values cs, its data columns ds and the check column of each row us
pub record Laid (cs ds us : List ℕ) : Type 0 where
  pub shape : Shape (length cs) (length ds)
  pub inside : Inside cs ds
  pub rising : Rising ds
  pub narrow : Narrow cs ds
  pub each_row : length us ≡ rows cs ds
  pub placed : Inside cs us
  pub aside : Aside ds us
  pub units : Holding cs us
  pub covered : Covered cs ds us

-- ---- computed

-- whether column j is no data column and holds v
abbrev pub holds : List ℕ → List ℕ → ℕ → ℕ → Bool
holds cs ds v j = not (among ds j) && slice_index cs j == v

-- the first check column that holds the unit of row i
abbrev pub check_column : List ℕ → List ℕ → ℕ → Option ℕ
check_column cs ds i = least (holds cs ds (2 ^ i)) 0 (length cs)

-- the check columns by their rows
abbrev pub check_columns : List ℕ → List ℕ → List ℕ
check_columns cs ds = map (λ i. unwrap_or (check_column cs ds i) 0) (range_with_len 0 (rows cs ds))

-- the code word of d: its data bits in the data columns, and in the check columns what makes the syndrome zero
abbrev pub encoding : List ℕ → List ℕ → ℕ → ℕ
encoding cs ds d = let w = place ds d in bit_xor w (place (check_columns cs ds) (syndrome cs w))
