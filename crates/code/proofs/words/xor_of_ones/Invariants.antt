use Rattle.std.proofs.Common.{◌≡◌, ℕ, ◌≤◌, map}
use lib.Bits.{bit_xor}
use Rattle.code.specs.Words.{combine}
use Rattle.code.proofs.words.xor_of_ones.Given as goal

-- what is taken and what is left combine to the whole, for each measure that the worth is
abbrev pub invariant-loop-rest : goal.invariant-loop-rest
invariant-loop-rest g l =
    (l.rest ≤ l.word)
    × ((of : _ → ℕ) → ((x : _) (r : ℕ) → goal.F-post g l.worth x r → r ≡ of x) → bit_xor l.sum (combine (map of l.items) l.rest) ≡ combine (map of l.items) l.word)

abbrev pub decreases-loop-rest : goal.decreases-loop-rest
decreases-loop-rest g l = l.rest
