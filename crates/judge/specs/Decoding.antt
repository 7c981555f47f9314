-- Decoding by a code with the column values cs and the data columns ds, and a class that lists ps.
use Rattle.std.specs.Prelude.{◌≡◌, ℕ, ◌^◌, ◌<◌, Bool, List, ◌∷◌, length, Some, None, Ok, Option, Result, ◌==◌, ◌≢◌, bit_xor, nat_lt, slice_index}
use Rattle.std.specs.List.{find}
use Rattle.code.specs.Codes.{encoding, syndrome}
use Rattle.code.specs.Words.{gather}
use Rattle.code.specs.declared.refusal.Refusal.{Refusal}
use Rattle.code.specs.declared.refusal.Refusal.TheVariants.{TooWide, WidthsDiffer}
use Rattle.judge.specs.Answers.{given}
use Rattle.judge.specs.declared.decoded.Decoded.{Decoded}
use Rattle.judge.specs.declared.decoded.Decoded.TheVariants.{Data, Flag}

-- whether the pattern p has the syndrome s
abbrev pub leaves : List ℕ → ℕ → ℕ → Bool
leaves cs s p = syndrome cs p == s

-- the pattern that decoding takes for the syndrome s: of the empty pattern and then the class, the first with that syndrome
abbrev pub taken : List ℕ → List ℕ → ℕ → Option ℕ
taken cs ps s = find (leaves cs s) (0 ∷ ps)

-- the data bits of the word with the pattern undone, and the pattern; a flag where there is no pattern
abbrev pub undone : List ℕ → ℕ → Option ℕ → Decoded
undone ds w None = Flag
undone ds w (Some p) = Data (gather ds (bit_xor w p)) p

abbrev pub decoded : List ℕ → List ℕ → List ℕ → ℕ → Decoded
decoded cs ds ps w = undone ds w (taken cs ps (syndrome cs w))

-- what the call answers for a class of width m: a class of another width is refused, and then a word with a bit beyond the columns
abbrev pub decoding : List ℕ → List ℕ → ℕ → List ℕ → ℕ → Result Decoded Refusal
decoding cs ds m ps w = given (m == length cs) WidthsDiffer (given (nat_lt w (2 ^ length cs)) TooWide (Ok (decoded cs ds ps w)))

-- ---- the same in words

-- no pattern before place i of the empty pattern and then the class has the syndrome of w
abbrev pub NoneBefore : List ℕ → List ℕ → ℕ → ℕ → Type 0
NoneBefore cs ps w i = (j : ℕ) → j < i → syndrome cs (slice_index (0 ∷ ps) j) ≢ syndrome cs w

-- the pattern p stands there, has the syndrome of w, and is the first that does
abbrev pub FirstWith : List ℕ → List ℕ → ℕ → ℕ → Type 0
FirstWith cs ps w p = (i : ℕ) × (i < length (0 ∷ ps)) × (slice_index (0 ∷ ps) i ≡ p) × (syndrome cs p ≡ syndrome cs w) × NoneBefore cs ps w i

-- a data word d with a pattern p: the first pattern that fits, and w is the code word of d struck by p; a flag: no pattern fits
abbrev pub Decodes : List ℕ → List ℕ → List ℕ → ℕ → Decoded → Type 0
Decodes cs ds ps w (Data d p) = FirstWith cs ps w p × (d < 2 ^ length ds) × (bit_xor (encoding cs ds d) p ≡ w)
Decodes cs ds ps w Flag = NoneBefore cs ps w (length (0 ∷ ps))

-- an encoded word is not refused for a class of the code's width, and gives its data word back, with the empty pattern
abbrev pub DecodesEncoded : List ℕ → List ℕ → List ℕ → Type 0
DecodesEncoded cs ds ps = (d : ℕ) → d < 2 ^ length ds → decoding cs ds (length cs) ps (encoding cs ds d) ≡ Ok (Data d 0)
