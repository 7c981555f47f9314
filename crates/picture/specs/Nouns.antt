-- The words for a number of things.
use Rattle.std.specs.Prelude.{ℕ, cond, List, ◌++◌, codes, decimal, ◌==◌}

-- `one` for one thing, and `many` for any other number of them
abbrev pub one_or : ℕ → List ℕ → List ℕ → List ℕ
one_or count one many = cond (count == 1) one many

-- the number, and then the word for so many things
abbrev pub counted : ℕ → List ℕ → List ℕ → List ℕ
counted count one many = decimal count ++ (codes " " ++ one_or count one many)
