-- What every code value is, from the facts that its type holds.
use Rattle.std.proofs.Common.{◌≡◌, ℕ, ◌^◌, ◌<◌, List, length, get_or, sym, ap, ◌∙◌, subst, arith}
use Rattle.code.specs.Words.{place}
use Rattle.code.specs.Shorts.{kept}
use Rattle.code.specs.Codes.{rows, syndrome, Inside, Wellformed, check_columns}
use Rattle.code.specs.Meaning.{columns_of, data_of}
use Rattle.code.specs.declared.code.Code.{Code}
use Rattle.code.proofs.Combining.{place_lt}
use Rattle.code.proofs.Codewords.{syndromes_fit}
use Rattle.code.proofs.Units.{Located, units_from, located_same, computed_located, not_bare}

abbrev pub checks_of : Code → List ℕ
checks_of c = kept c.checks

located : (c : Code) → Located (columns_of c) (data_of c) (checks_of c)
located c = (c.laid.each_row, λ i h. ((c.laid.placed i h, c.laid.aside i h), c.laid.units i h))

-- every code value is well formed
pub every_code : (c : Code) → Wellformed (columns_of c) (data_of c)
every_code c = record {
  shape = c.laid.shape;
  inside = c.laid.inside;
  rising = c.laid.rising;
  narrow = c.laid.narrow;
  units = units_from (columns_of c) (data_of c) (checks_of c) (located c) c.laid.covered;
}

-- its check columns are the ones that the definitions compute
pub checks_computed : (c : Code) → checks_of c ≡ check_columns (columns_of c) (data_of c)
checks_computed c = let u = (every_code c).units in
    located_same (columns_of c) (data_of c) (checks_of c) (check_columns (columns_of c) (data_of c)) u (located c) (computed_located (columns_of c) (data_of c) (not_bare (columns_of c) (data_of c) u))

-- ---- words within a width, and beyond it

-- ---- what the steps of a call need of the lists xs that it reads, which are lists of the code

-- a column of a code is below the width of a word
pub places : (c : Code) (xs js : List ℕ) → xs ≡ js → Inside (columns_of c) js → (i : ℕ) → i < length xs → get_or xs i 0 < 64
places c xs js e f = subst (λ ys. (i : ℕ) → i < length ys → get_or ys i 0 < 64) (sym e) (λ i h. omega (arith, f i h, c.laid.shape.1))

pub checks_inside : (c : Code) → Inside (columns_of c) (check_columns (columns_of c) (data_of c))
checks_inside c = subst (Inside (columns_of c)) (checks_computed c) c.laid.placed

-- a word with bits in data columns alone has n bits
pub carried_below : (c : Code) (xs : List ℕ) (d w : ℕ) → xs ≡ columns_of c → w ≡ place (data_of c) d → w < 2 ^ length xs
carried_below c xs d w e p = subst (λ ys. w < 2 ^ length ys) (sym e) (subst (λ x. x < 2 ^ length (columns_of c)) (sym p) (place_lt (length (columns_of c)) (data_of c) d c.laid.inside))

-- a syndrome has a bit for each check column
pub syndrome_below : (c : Code) (xs : List ℕ) (w s : ℕ) → xs ≡ check_columns (columns_of c) (data_of c) → s ≡ syndrome (columns_of c) w → s < 2 ^ length xs
syndrome_below c xs w s e p =
    subst (λ x. s < 2 ^ x) (sym (ap length e ∙ (sym (ap length (checks_computed c)) ∙ c.laid.each_row)))
    (subst (λ x. x < 2 ^ rows (columns_of c) (data_of c)) (sym p) (syndromes_fit (columns_of c) (data_of c) (every_code c) w))
