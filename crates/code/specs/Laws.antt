-- The theorems about codes, as statements over column values cs and data column numbers ds.
use Rattle.std.specs.Prelude.{◌≡◌, ℕ, ◌^◌, ◌<◌, List, [], ◌∷◌, length, bit_xor, slice_index}
use Rattle.code.specs.Words.{gather}
use Rattle.code.specs.Codes.{rows, syndrome, Encodes, encoding}

-- the syndrome adds up under xor, and a single one bit gives the value of its column: so it is the matrix times the word
pub record Linear (cs : List ℕ) : Type 0 where
  pub additive : (a b : ℕ) → syndrome cs (bit_xor a b) ≡ bit_xor (syndrome cs a) (syndrome cs b)
  pub single : (j : ℕ) → syndrome cs (2 ^ j) ≡ slice_index cs j

-- no syndrome needs more than the r rows
abbrev pub SyndromesFit : List ℕ → List ℕ → Type 0
SyndromesFit cs ds = (w : ℕ) → syndrome cs w < 2 ^ rows cs ds

-- each data word has exactly one code word
abbrev pub OneCodeword : List ℕ → List ℕ → Type 0
OneCodeword cs ds = (d : ℕ) → d < 2 ^ length ds → Encodes cs ds d (encoding cs ds d) × ((w : ℕ) → Encodes cs ds d w → w ≡ encoding cs ds d)

-- each word of syndrome zero is the encoding of exactly one data word: its data bits
abbrev pub OneDataWord : List ℕ → List ℕ → Type 0
OneDataWord cs ds = (w : ℕ) → w < 2 ^ length cs → syndrome cs w ≡ 0
    → (gather ds w < 2 ^ length ds) × (encoding cs ds (gather ds w) ≡ w) × ((d : ℕ) → d < 2 ^ length ds → encoding cs ds d ≡ w → d ≡ gather ds w)

-- the data bits of an encoding are the data word
abbrev pub ReadsBack : List ℕ → List ℕ → Type 0
ReadsBack cs ds = (d : ℕ) → d < 2 ^ length ds → gather ds (encoding cs ds d) ≡ d

-- the worked examples: the code with column values 3, 5, 6, 7, 1, 2, 4 and data columns 0 to 3 encodes 1 as 49 and 15 as 127
abbrev pub WorkedExamples : Type 0
WorkedExamples = let cs = 3 ∷ 5 ∷ 6 ∷ 7 ∷ 1 ∷ 2 ∷ 4 ∷ [] in let ds = 0 ∷ 1 ∷ 2 ∷ 3 ∷ [] in
    Encodes cs ds 1 49 × Encodes cs ds 15 127 × (encoding cs ds 1 ≡ 49) × (encoding cs ds 15 ≡ 127)
