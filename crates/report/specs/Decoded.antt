-- What is said of a received word that is decoded, as bytes. The code has the column values cs and the data columns ds.
use Rattle.std.specs.Prelude.{ℕ, cond, List, ◌++◌, length, Ok, Err, codes, decimal, Result, ◌==◌}
use Rattle.code.specs.Meaning.{columns_of, data_of}
use Rattle.code.specs.declared.refusal.Refusal.{Refusal}
use Rattle.classes.specs.Meaning.{patterns_of, width_of}
use Rattle.picture.specs.Drawn.{value_drawn}
use Rattle.design.specs.Meaning.{class_of, code_of}
use Rattle.design.specs.declared.design.Design.{Design}
use Rattle.design.specs.declared.duty.Duty.TheVariants.{Correct}
use Rattle.judge.specs.Decoding.{decoding}
use Rattle.judge.specs.declared.decoded.Decoded.{Decoded}
use Rattle.judge.specs.declared.decoded.Decoded.TheVariants.{Data, Flag}
use Rattle.report.specs.Syndrome.{syndrome_drawn}
use Rattle.report.specs.Wide.{wide_word}

-- the pattern that was undone; the empty one is no error
abbrev pub undone_drawn : ℕ → ℕ → List ℕ
undone_drawn n pattern = cond (pattern == 0) (codes "no error found") (codes "pattern " ++ (value_drawn (codes "columns") n pattern ++ codes " undone"))

-- the data word and the pattern that was undone to find it, or the syndrome that no pattern has
abbrev pub found : List ℕ → List ℕ → ℕ → Decoded → List ℕ
found cs ds word (Data bits pattern) = value_drawn (codes "bits") (length ds) bits ++ (codes ", " ++ undone_drawn (length cs) pattern)
found cs ds word Flag = codes "flag, no pattern to correct has the syndrome " ++ syndrome_drawn cs ds word

abbrev pub decoded_line : List ℕ → List ℕ → ℕ → Decoded → List ℕ
decoded_line cs ds word decoded = codes "decode " ++ (decimal word ++ (codes ": " ++ found cs ds word decoded))

-- the line for what was decoded; a word that is not decoded has a bit beyond the columns
abbrev pub decoding_line : List ℕ → List ℕ → ℕ → Result Decoded Refusal → List ℕ
decoding_line cs ds word (Ok decoded) = decoded_line cs ds word decoded
decoding_line cs ds word (Err e) = wide_word word (length cs) e

-- what the errors to correct make of a word
unfoldable pub decoded_text : Design → ℕ → List ℕ
decoded_text d word =
    let cs = columns_of (code_of d) in
    let ds = data_of (code_of d) in
    decoding_line cs ds word (decoding cs ds (width_of (class_of d Correct)) (patterns_of (class_of d Correct)) word)
