-- Which numbers a list holds.
use Rattle.std.proofs.Common.{◌≡◌, ℕ, zero, suc, ◌<◌, true, false, eqb, List, [], ◌∷◌, length, get_or, sym, refl, subst, inl, inr, arith}
use Rattle.std.proofs.lemmas.Bool.{cases_Bool, both_ways, false≢true, eqb-true, eq-eqb, or_cases, or_left, or_right}
use Rattle.code.specs.Search.{among}
use Rattle.code.specs.Codes.{Beside}

pub among_at : (js : List ℕ) (i : ℕ) → i < length js → among js (get_or js i 0) ≡ true
among_at [] i h = absurd (omega arith)
among_at (x ∷ xs) zero h = or_left (eqb x x) (among xs x) (eq-eqb x x refl)
among_at (x ∷ xs) (suc i) h = or_right (eqb x (get_or xs i 0)) (among xs (get_or xs i 0)) (among_at xs i (omega arith))

pub place_of : (js : List ℕ) (j : ℕ) → among js j ≡ true → (i : ℕ) × (i < length js) × (get_or js i 0 ≡ j)
place_of [] j e = absurd (false≢true e)
place_of (x ∷ xs) j e = elim (or_cases (eqb x j) (among xs j) e) [
  | inl h ↦ (0, omega arith, eqb-true x j h)
  | inr h ↦ (let p = place_of xs j h in (suc p.0, omega (arith, p.1), p.2))
]

pub beside : (js : List ℕ) (j : ℕ) → among js j ≡ false → Beside js j
beside js j e i h p = both_ways (among js j) e (subst (λ x. among js x ≡ true) p (among_at js i h))

pub not_among : (js : List ℕ) (j : ℕ) → Beside js j → among js j ≡ false
not_among js j b = elim (cases_Bool (among js j))
    [ inl t ↦ (let p = place_of js j t in absurd (b p.0 p.1 p.2)) | inr f ↦ f ]

pub is_among : (js : List ℕ) (j : ℕ) → (Beside js j → ⊥) → among js j ≡ true
is_among js j f = elim (cases_Bool (among js j)) [ inl t ↦ t | inr e ↦ absurd (f (beside js j e)) ]

-- no number stands twice
abbrev pub Distinct : List ℕ → Type 0
Distinct [] = Unit {0}
Distinct (i ∷ is) = (among is i ≡ false) × Distinct is

pub distinct_from : (js : List ℕ) → ((i j : ℕ) → i < j → j < length js → get_or js i 0 ≡ get_or js j 0 → ⊥) → Distinct js
distinct_from [] f = tt
distinct_from (x ∷ xs) f = (
  not_among xs x (λ i h e. f 0 (suc i) (omega arith) (omega arith) (sym e)),
  distinct_from xs (λ i j l h. f (suc i) (suc j) (omega arith) (omega arith)),
)
