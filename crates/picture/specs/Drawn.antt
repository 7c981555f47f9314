-- A word drawn in the order of its columns.
use Rattle.std.specs.Prelude.{ℕ, zero, suc, ◌+◌, ◌/◌, ◌%◌, List, [], ◌∷◌, ◌++◌, codes, decimal}

-- the lowest n bits of a word as the characters 0 and 1, bit 0 first
abbrev pub drawn : ℕ → ℕ → List ℕ
drawn zero word = []
drawn (suc n) word = (48 + word % 2) ∷ drawn n (word / 2)

-- a number, and in brackets its lowest n bits drawn, behind the word for what they belong to
abbrev pub value_drawn : List ℕ → ℕ → ℕ → List ℕ
value_drawn places n value = decimal value ++ (codes " (" ++ (places ++ (codes " " ++ (drawn n value ++ codes ")"))))
