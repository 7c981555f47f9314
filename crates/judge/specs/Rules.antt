-- Rules from received words to data words, and the duty that a design asks of a rule. The code has the column values cs and the data columns ds; the first class lists ps, the second qs.
use Rattle.std.specs.Prelude.{◌≡◌, ℕ, ◌^◌, ◌<◌, List, length, IfSome, Some, None, Option, bit_xor}
use Rattle.code.specs.Codes.{encoding}
use Rattle.judge.specs.Decoding.{decoded}
use Rattle.judge.specs.LineUp.{Correctable, Detectable}
use Rattle.judge.specs.declared.decoded.Decoded.{Decoded}
use Rattle.judge.specs.declared.decoded.Decoded.TheVariants.{Data, Flag}

-- what is given for a received word of n bits is a data word of k bits, or None for a flag
abbrev pub GivesData : ℕ → ℕ → (ℕ → Option ℕ) → Type 0
GivesData n k answer = (w : ℕ) → w < 2 ^ n → IfSome (answer w) (λ d. d < 2 ^ k)

-- a rule gives each received word of n bits a data word of k bits or a flag, and reads nothing but that word
pub record Rule (n k : ℕ) : Type 0 where
  pub answer : ℕ → Option ℕ
  pub gives : GivesData n k answer

-- what a design asks: for every data word, its encoding gives it back, and so does the encoding struck by a correctable pattern; struck by a detectable pattern it gives a flag
pub record Duty (cs ds ps qs : List ℕ) (answer : ℕ → Option ℕ) : Type 0 where
  pub clean : (d : ℕ) → d < 2 ^ length ds → answer (encoding cs ds d) ≡ Some d
  pub corrects : (d p : ℕ) → d < 2 ^ length ds → Correctable ps p → answer (bit_xor (encoding cs ds d) p) ≡ Some d
  pub flags : (d q : ℕ) → d < 2 ^ length ds → Detectable ps qs q → answer (bit_xor (encoding cs ds d) q) ≡ None

-- no rule does the duty
abbrev pub NoRule : List ℕ → List ℕ → List ℕ → List ℕ → Type 0
NoRule cs ds ps qs = (rule : Rule (length cs) (length ds)) → Duty cs ds ps qs rule.answer → ⊥

-- the data word of what was decoded, or None for a flag
abbrev pub data_word : Decoded → Option ℕ
data_word (Data d p) = Some d
data_word Flag = None

-- decoding as a rule
abbrev pub by_decoding : List ℕ → List ℕ → List ℕ → ℕ → Option ℕ
by_decoding cs ds ps w = data_word (decoded cs ds ps w)

-- decoding is a rule, and it does the duty
abbrev pub DecodingServes : List ℕ → List ℕ → List ℕ → List ℕ → Type 0
DecodingServes cs ds ps qs = GivesData (length cs) (length ds) (by_decoding cs ds ps) × Duty cs ds ps qs (by_decoding cs ds ps)
