-- What a word of a script says as a number.
use Rattle.std.specs.Prelude.{ℕ, ◌^◌, ◌<◌, List, Result}
use Rattle.std.specs.Result.{OkIff}
use Rattle.std.specs.Str.Parse.{IsNumeral, digits_value}

-- the word is one decimal digit or more and nothing else, no sign either, and its value fits 64 bits
abbrev pub Number : List ℕ → Type 0
Number word = IsNumeral 10 word × (digits_value 10 word < 2 ^ 64)

-- r is the value of the word where the word is such a number, and an error where it is not
abbrev pub Reads : {E : Type 0} → List ℕ → Result ℕ E → Type 0
Reads word r = OkIff r (Number word) (digits_value 10 word)
