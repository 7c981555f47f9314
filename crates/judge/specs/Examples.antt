-- The worked examples of the judge.
use Rattle.std.specs.Prelude.{◌≡◌, ℕ, List, [], ◌∷◌, ◌++◌, Ok, Err}
use Rattle.code.specs.declared.refusal.Refusal.TheVariants.{CorrectableClash, DetectableClash}
use Rattle.listings.specs.Listings.{burst, random}
use Rattle.judge.specs.Verdicts.{verdict}

-- a Hamming code with 4 data bits in 7 columns, and repetition codes of length 6 and of length 2
abbrev pub columns_a : List ℕ
columns_a = 3 ∷ (5 ∷ (6 ∷ (7 ∷ (1 ∷ (2 ∷ (4 ∷ []))))))

abbrev pub data_a : List ℕ
data_a = 0 ∷ (1 ∷ (2 ∷ (3 ∷ [])))

abbrev pub columns_b : List ℕ
columns_b = 31 ∷ (1 ∷ (2 ∷ (4 ∷ (8 ∷ (16 ∷ [])))))

abbrev pub columns_c : List ℕ
columns_c = 1 ∷ (1 ∷ [])

-- the repetition codes have one data column
abbrev pub data_one : List ℕ
data_one = 0 ∷ []

-- the verdicts: single errors of A, then with doubles flagged, then with neighbouring doubles corrected; C with single errors flagged, then corrected; B with single and double errors corrected and triples flagged
abbrev pub WorkedVerdicts : Type 0
WorkedVerdicts =
    (verdict columns_a data_a 7 (random 7 1) 7 [] ≡ Ok 8)
    × (verdict columns_a data_a 7 (random 7 1) 7 (random 7 2) ≡ Err (DetectableClash (record { earlier = 4; later = 3; first = 0; second = 7 })))
    × (verdict columns_a data_a 7 (random 7 1 ++ burst 7 2) 7 [] ≡ Err (CorrectableClash (record { earlier = 4; later = 3; first = 0; second = 7 })))
    × (verdict columns_c data_one 2 [] 2 (random 2 1) ≡ Ok 3)
    × (verdict columns_c data_one 2 (random 2 1) 2 [] ≡ Err (CorrectableClash (record { earlier = 1; later = 2; first = 0; second = 1 })))
    × (verdict columns_b data_one 6 (random 6 1 ++ random 6 2) 6 (random 6 3) ≡ Ok 42)
