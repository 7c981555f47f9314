-- What two classes ask of a code together: to correct the patterns ps of the first, and to flag those patterns qs of the second that are not to be corrected.
use Rattle.std.specs.Prelude.{◌≡◌, ℕ, true, false, not, List, Decides, filter}
use Rattle.code.specs.Search.{among}
use Rattle.listings.specs.Lawful.{Pattern}

-- the patterns of the second class that are not in the first, in their order
abbrev pub detectable : List ℕ → List ℕ → List ℕ
detectable ps qs = filter (λ q. not (among ps q)) qs

-- a mask is detectable exactly when the second class, of width m, lists it and the first does not; and then it is a pattern of m columns
abbrev pub Detects : ℕ → List ℕ → List ℕ → Type 0
Detects m ps qs = (q : ℕ) → Decides (among (detectable ps qs) q) ((among qs q ≡ true) × (among ps q ≡ false) × Pattern m q)
