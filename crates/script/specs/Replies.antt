-- The lines that answer, as bytes.
use Rattle.std.specs.Prelude.{◌≡◌, ℕ, List, [], ◌++◌, length, Ok, Err, codes, decimal, Result}
use Rattle.code.specs.Codes.{rows, syndrome, encoding}
use Rattle.code.specs.Meaning.{within}
use Rattle.code.specs.Refusals.{number_of}
use Rattle.code.specs.Words.{gather}
use Rattle.code.specs.declared.refusal.Refusal.{Refusal}
use Rattle.code.specs.declared.refusal.Refusal.TheVariants.{OutOfBoundsAt, DataColumn, ColumnValue, TooWideAt}
use Rattle.picture.specs.Drawn.{value_drawn}
use Rattle.picture.specs.Pictured.{pictured}
use Rattle.report.specs.Wide.{wide_data_word, wide_word}
use Rattle.script.specs.declared.question.Question.{Question}
use Rattle.script.specs.declared.question.Question.TheVariants.{Encode, Syndrome, Data}

-- the command that asks it
abbrev pub asked : Question → List ℕ
asked Encode = codes "encode"
asked Syndrome = codes "syndrome"
asked Data = codes "data"

-- what the bits of the answer belong to
abbrev pub places : Question → List ℕ
places Encode = codes "columns"
places Syndrome = codes "rows"
places Data = codes "bits"

-- a word, and what is answered of it with its bits, so many of them
abbrev pub word_line : Question → ℕ → ℕ → ℕ → List ℕ
word_line question word value count = asked question ++ (codes " " ++ (decimal word ++ (codes ": " ++ value_drawn (places question) count value)))

abbrev pub opened_line : ℕ → ℕ → ℕ → List ℕ
opened_line columns data_count checks = codes "code of " ++ (decimal columns ++ (codes " columns: " ++ (decimal data_count ++ (codes " data, " ++ (decimal checks ++ codes " check")))))

abbrev pub unfinished_line : ℕ → List ℕ
unfinished_line line = codes "the script ends, and the drawing that is open since line " ++ (decimal line ++ codes " has no 'data'")

-- where a refusal points to: an item of a list by its index, or a column; nowhere, for the others
abbrev pub place : Refusal → List ℕ
place (OutOfBoundsAt i) = codes " at index " ++ decimal i
place (DataColumn i) = codes " at index " ++ decimal i
place (ColumnValue j) = codes " at column " ++ decimal j
place (TooWideAt i) = codes " at index " ++ decimal i
place e = []

-- the text names the refusal by its number, says where, and says why in words that are left open here
abbrev pub Says : Refusal → List ℕ → Type 0
Says e text = (why : List ℕ) × (text ≡ codes "refused " ++ (decimal (number_of e) ++ (place e ++ (codes ": " ++ why))))

-- the line for an answer, or for its refusal
abbrev pub answer : Result ℕ Refusal → (ℕ → List ℕ) → (Refusal → List ℕ) → List ℕ
answer (Ok x) line refused = line x
answer (Err e) line refused = refused e

-- ---- what the commands answer, for a code with the column values cs and the data columns ds

abbrev pub encode_text : List ℕ → List ℕ → ℕ → List ℕ
encode_text cs ds word = answer (within (length ds) word (encoding cs ds word)) (λ w. word_line Encode word w (length cs)) (wide_data_word word (length ds))

abbrev pub syndrome_text : List ℕ → List ℕ → ℕ → List ℕ
syndrome_text cs ds word = answer (within (length cs) word (syndrome cs word)) (λ s. word_line Syndrome word s (rows cs ds)) (wide_word word (length cs))

abbrev pub data_text : List ℕ → List ℕ → ℕ → List ℕ
data_text cs ds word = answer (within (length cs) word (gather ds word)) (λ d. word_line Data word d (length ds)) (wide_word word (length cs))

abbrev pub show_text : List ℕ → List ℕ → List ℕ
show_text cs ds = pictured cs ds (rows cs ds)

abbrev pub opened_text : List ℕ → List ℕ → List ℕ
opened_text cs ds = opened_line (length cs) (length ds) (rows cs ds)
