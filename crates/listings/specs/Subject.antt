-- What random and burst errors are, in the subject's own words.
use Rattle.std.specs.Prelude.{◌≡◌, ℕ, ◌+◌, ◌-◌, ◌*◌, ◌^◌, ◌<◌, ◌≤◌, List, length, Decides, count_ones, slice_index}
use Rattle.code.specs.Search.{among}
use Rattle.code.specs.Words.{bit}
use Rattle.listings.specs.Listings.{choose, factorial}

-- the listing holds a word exactly when P holds of it
abbrev pub Exactly : (ℕ → Type 0) → List ℕ → Type 0
Exactly P ps = (w : ℕ) → Decides (among ps w) (P w)

-- every word is below the words after it
abbrev pub Ascending : List ℕ → Type 0
Ascending ps = (i j : ℕ) → i < j → j < length ps → slice_index ps i < slice_index ps j

-- w has n bits, and t of them are one
abbrev pub OnesAmong : ℕ → ℕ → ℕ → Type 0
OnesAmong n t w = (w < 2 ^ n) × (count_ones w ≡ t)

-- w has ones in the l columns from i on, and in no other column
abbrev pub RunFrom : ℕ → ℕ → ℕ → Type 0
RunFrom l i w = ((j : ℕ) → i ≤ j → j < i + l → bit w j ≡ 1) × ((j : ℕ) → j < i → bit w j ≡ 0) × ((j : ℕ) → i + l ≤ j → bit w j ≡ 0)

-- w is a run of l ones that lies within n columns
abbrev pub RunWithin : ℕ → ℕ → ℕ → Type 0
RunWithin n l w = (i : ℕ) × (i + l ≤ n) × RunFrom l i w

-- a count is n choose t: by Pascal's rule, and so n! is the count times t! times (n - t)!
abbrev pub Chosen : ℕ → ℕ → ℕ → Type 0
Chosen n t count = (count ≡ choose n t) × (count * (factorial t * factorial (n - t)) ≡ factorial n)

-- exactly the words of n bits with t ones, each once and rising, n choose t of them
abbrev pub ListsRandom : ℕ → ℕ → List ℕ → Type 0
ListsRandom n t ps = Exactly (OnesAmong n t) ps × Ascending ps × Chosen n t (length ps)

-- exactly the runs of l ones within n columns, each once and rising, n - l + 1 of them
abbrev pub ListsBurst : ℕ → ℕ → List ℕ → Type 0
ListsBurst n l ps = Exactly (RunWithin n l) ps × Ascending ps × (length ps ≡ n - l + 1)
