-- What an error class means: a width, and a listing of patterns. And what its questions answer.
use Rattle.std.specs.Prelude.{◌≡◌, ℕ, ◌^◌, ◌<◌, ◌≤◌, true, cond, List, length, Ok, Err, Result, nat_lt, slice_index}
use Rattle.code.specs.Limits.{least_columns, most_columns}
use Rattle.code.specs.Search.{among}
use Rattle.code.specs.declared.refusal.Refusal.{Refusal}
use Rattle.code.specs.declared.refusal.Refusal.TheVariants.{BeyondEnd}
use Rattle.listings.specs.Limits.{most_patterns}

-- a pattern flips some columns of a word of n bits
abbrev pub Pattern : ℕ → ℕ → Type 0
Pattern n p = (1 ≤ p) × (p < 2 ^ n)

abbrev pub Patterns : ℕ → List ℕ → Type 0
Patterns n ps = (p : ℕ) → among ps p ≡ true → Pattern n p

-- what is known of the width and the listing of every class
pub record Lawful (n : ℕ) (ps : List ℕ) : Type 0 where
  pub low : least_columns ≤ n
  pub high : n ≤ most_columns
  pub few : length ps ≤ most_patterns
  pub each : Patterns n ps

-- the pattern at a number, counted from 0; from the count on there is none
abbrev pub pattern_at : List ℕ → ℕ → Result ℕ Refusal
pattern_at ps i = cond (nat_lt i (length ps)) (Ok (slice_index ps i)) (Err BeyondEnd)
