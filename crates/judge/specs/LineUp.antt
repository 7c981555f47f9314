-- The line-up of a design, and which of its places clash. The code has the column values cs; the first class lists ps, the second qs.
use Rattle.std.specs.Prelude.{◌≡◌, ℕ, ◌<◌, true, false, ◌⊎◌, List, ◌∷◌, ◌++◌, length, ◌≢◌, slice_index}
use Rattle.code.specs.Codes.{syndrome}
use Rattle.code.specs.Search.{among}
use Rattle.classes.specs.Duties.{detectable}

-- the first class lists the pattern
abbrev pub Correctable : List ℕ → ℕ → Type 0
Correctable ps p = among ps p ≡ true

-- the second class lists the pattern, and the first does not
abbrev pub Detectable : List ℕ → List ℕ → ℕ → Type 0
Detectable ps qs q = (among qs q ≡ true) × (among ps q ≡ false)

-- the empty pattern, the patterns to correct, and then those that are only to be flagged
abbrev pub line_up : List ℕ → List ℕ → List ℕ
line_up ps qs = 0 ∷ (ps ++ detectable ps qs)

-- two different patterns that leave one syndrome
abbrev pub Alike : List ℕ → ℕ → ℕ → Type 0
Alike cs p q = (p ≢ q) × (syndrome cs p ≡ syndrome cs q)

abbrev pub EmptyOrCorrectable : List ℕ → ℕ → Type 0
EmptyOrCorrectable ps p = (p ≡ 0) ⊎ Correctable ps p

-- the places e and l of the line-up clash, e being the earlier: their patterns are alike, and the earlier pattern is empty or correctable
abbrev pub Clashes : List ℕ → List ℕ → List ℕ → ℕ → ℕ → Type 0
Clashes cs ps qs e l = let line = line_up ps qs in
    (e < l) × (l < length line) × Alike cs (slice_index line e) (slice_index line l) × EmptyOrCorrectable ps (slice_index line e)

-- the smallest later place that clashes, and for it the smallest earlier place
abbrev pub FirstClash : List ℕ → List ℕ → List ℕ → ℕ → ℕ → Type 0
FirstClash cs ps qs e l = Clashes cs ps qs e l × ((e' l' : ℕ) → l' < l → Clashes cs ps qs e' l' → ⊥) × ((e' : ℕ) → e' < e → Clashes cs ps qs e' l → ⊥)

-- p and q are the patterns at the places of the first clash
abbrev pub FirstPair : List ℕ → List ℕ → List ℕ → ℕ → ℕ → Type 0
FirstPair cs ps qs p q = (e : ℕ) × (l : ℕ) × FirstClash cs ps qs e l × (slice_index (line_up ps qs) e ≡ p) × (slice_index (line_up ps qs) l ≡ q)

-- a design is accepted if no two places of its line-up clash
abbrev pub Accepted : List ℕ → List ℕ → List ℕ → Type 0
Accepted cs ps qs = (e l : ℕ) → Clashes cs ps qs e l → ⊥
