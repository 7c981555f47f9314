-- What random and burst errors list, in a word of n bits.
use Rattle.std.specs.Prelude.{ℕ, zero, suc, ◌+◌, ◌-◌, ◌*◌, ◌^◌, List, [], ◌∷◌, ◌++◌, map}
use Rattle.std.specs.List.{range_with_len}

-- the words with t ones, rising: those with a zero in the top column, and then those with a one there
abbrev pub random : ℕ → ℕ → List ℕ
random n zero = 0 ∷ []
random zero (suc t) = []
random (suc n) (suc t) = random n (suc t) ++ map (λ w. w + 2 ^ n) (random n t)

-- how many ways there are to choose t of n columns
abbrev pub choose : ℕ → ℕ → ℕ
choose n zero = 1
choose zero (suc t) = 0
choose (suc n) (suc t) = choose n (suc t) + choose n t

abbrev pub factorial : ℕ → ℕ
factorial zero = 1
factorial (suc n) = suc n * factorial n

-- the word with l ones from column i on, and no others
abbrev pub run : ℕ → ℕ → ℕ
run l i = (2 ^ l - 1) * 2 ^ i

-- the runs of l ones, from the one that starts in column 0 to the one that ends in column n - 1
abbrev pub burst : ℕ → ℕ → List ℕ
burst n l = map (run l) (range_with_len 0 (n + 1 - l))
