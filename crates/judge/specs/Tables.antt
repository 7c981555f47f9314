-- Decoding tables of a code with the column values cs and the data columns ds: an entry for each of the 2 ^ r syndromes.
use Rattle.std.specs.Prelude.{◌≡◌, ℕ, ◌-◌, ◌%◌, ◌^◌, cond, List, ◌++◌, map, length, take, drop, Some, None, Ok, Option, Result, ◌==◌, nat_le, nat_lt, slice_index}
use Rattle.std.specs.List.{range_with_len}
use Rattle.code.specs.Codes.{rows, syndrome}
use Rattle.code.specs.Opening.{unless}
use Rattle.code.specs.declared.refusal.Refusal.{Refusal}
use Rattle.code.specs.declared.refusal.Refusal.TheVariants.{ShortTable, TooWide, WidthsDiffer}
use Rattle.listings.specs.Lawful.{Lawful}
use Rattle.judge.specs.Answers.{given}
use Rattle.judge.specs.Decoding.{decoding, taken, undone}
use Rattle.judge.specs.declared.decoded.Decoded.{Decoded}

-- the entry that stands for a flag: all ones
abbrev pub flag_entry : ℕ
flag_entry = 2 ^ 64 - 1

abbrev pub entry_of : Option ℕ → ℕ
entry_of None = flag_entry
entry_of (Some p) = p

-- the entry s is the pattern that decoding takes for the syndrome s
abbrev pub decoding_table : List ℕ → List ℕ → List ℕ → List ℕ
decoding_table cs ds ps = map (λ s. entry_of (taken cs ps s)) (range_with_len 0 (2 ^ rows cs ds))

-- what a slice holds once its table is filled: its later entries stay
abbrev pub filled : List ℕ → List ℕ → List ℕ → List ℕ → List ℕ
filled cs ds ps slice = decoding_table cs ds ps ++ drop (2 ^ rows cs ds) slice

-- why a slice is not filled for a class of width m
abbrev pub fill_refusal : List ℕ → List ℕ → ℕ → List ℕ → Option Refusal
fill_refusal cs ds m slice = unless (m == length cs) WidthsDiffer (unless (nat_le (2 ^ rows cs ds) (length slice)) ShortTable None)

-- the slice begins with the decoding table
abbrev pub HoldsTable : List ℕ → List ℕ → List ℕ → List ℕ → Type 0
HoldsTable cs ds ps slice = take (2 ^ rows cs ds) slice ≡ decoding_table cs ds ps

-- the pattern that an entry names to a code of n columns: an entry that is no flag is taken modulo 2 ^ n
abbrev pub entry_pattern : ℕ → ℕ → Option ℕ
entry_pattern n entry = cond (entry == flag_entry) None (Some (entry % 2 ^ n))

-- what an entry says of the word w of n bits
abbrev pub by_entry : List ℕ → ℕ → ℕ → ℕ → Decoded
by_entry ds n w entry = undone ds w (entry_pattern n entry)

-- what decoding by a slice answers: a word with a bit beyond the columns is refused, and then a slice with too few entries
abbrev pub table_decoding : List ℕ → List ℕ → List ℕ → ℕ → Result Decoded Refusal
table_decoding cs ds slice w =
    given (nat_lt w (2 ^ length cs)) TooWide (given (nat_le (2 ^ rows cs ds) (length slice)) ShortTable (Ok (by_entry ds (length cs) w (slice_index slice (syndrome cs w)))))

-- with the filled table of any class of the code's width, the answer is that of decoding
abbrev pub AgreesWithDecoding : List ℕ → List ℕ → List ℕ → ℕ → Result Decoded Refusal → Type 0
AgreesWithDecoding cs ds slice w r = (m : ℕ) (ps : List ℕ) → Lawful m ps → m ≡ length cs → HoldsTable cs ds ps slice → r ≡ decoding cs ds m ps w
