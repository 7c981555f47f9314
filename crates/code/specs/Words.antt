-- Words are numbers: bit j of a word has the weight 2 ^ j.
use Rattle.std.specs.Prelude.{ℕ, zero, suc, ◌+◌, ◌*◌, ◌/◌, ◌%◌, ◌^◌, cond, nat_lt, List, [], ◌∷◌, map, bit_xor}

abbrev pub bit : ℕ → ℕ → ℕ
bit w j = w / 2 ^ j % 2

-- v where the bit b is one, 0 where it is zero
abbrev pub pick : ℕ → ℕ → ℕ
pick zero v = 0
pick (suc b) v = v

-- the xor of the values whose bit in w is one, the first value at bit 0
abbrev pub combine : List ℕ → ℕ → ℕ
combine [] w = 0
combine (v ∷ vs) w = bit_xor (pick (w % 2) v) (combine vs (w / 2))

-- the bits of w at the places js, the first as bit 0
abbrev pub gather : List ℕ → ℕ → ℕ
gather [] w = 0
gather (j ∷ js) w = gather js w * 2 + bit w j

-- the word with a one in place j only
abbrev pub unit : ℕ → ℕ
unit j = 2 ^ j

-- the word with bit i of d at the i-th of the places js, and zero elsewhere
abbrev pub place : List ℕ → ℕ → ℕ
place js d = combine (map unit js) d

-- what a one in place j counts in a number of 64 bits
abbrev pub weight : ℕ → ℕ
weight j = cond (nat_lt j 64) (2 ^ j) 0
