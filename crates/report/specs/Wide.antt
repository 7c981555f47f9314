-- The lines that refuse a word with a bit beyond the columns, as bytes.
use Rattle.std.specs.Prelude.{ℕ, List, ◌++◌, codes, decimal}
use Rattle.code.specs.Refusals.{number_of}
use Rattle.code.specs.declared.refusal.Refusal.{Refusal}
use Rattle.picture.specs.Nouns.{counted}

-- a word with a bit beyond the columns, which are so many, is refused
abbrev pub beyond_line : ℕ → List ℕ → ℕ → List ℕ → List ℕ
beyond_line number name word columns = codes "refused " ++ (decimal number ++ (name ++ (decimal word ++ (codes " has a bit beyond the " ++ columns))))

abbrev pub wide_word : ℕ → ℕ → Refusal → List ℕ
wide_word word columns e = beyond_line (number_of e) (codes ": word ") word (decimal columns ++ codes " columns")

abbrev pub wide_data_word : ℕ → ℕ → Refusal → List ℕ
wide_data_word word count e = beyond_line (number_of e) (codes ": data word ") word (counted count (codes "data column") (codes "data columns"))
