-- Lists that rise from a floor on, by recursion; and that such a list rises by its places.
use Rattle.std.proofs.Common.{◌≡◌, ℕ, zero, suc, ◌+◌, ◌<◌, ◌≤◌, true, eqb, List, [], ◌∷◌, ◌++◌, map, length, get_or, refl, subst, arith}
use Rattle.std.proofs.lemmas.Bool.{eq-eqb, or_left, or_right}
use Rattle.code.specs.Search.{among}
use Rattle.listings.specs.Subject.{Ascending}

-- the first is floor or more, and each is above the one before
abbrev pub Climbs : ℕ → List ℕ → Type 0
Climbs floor [] = Unit {0}
Climbs floor (x ∷ xs) = (floor ≤ x) × Climbs (x + 1) xs

pub climbs_append : (floor m : ℕ) (xs ys : List ℕ) → floor ≤ m → Climbs floor xs → ((w : ℕ) → among xs w ≡ true → w < m) → Climbs m ys → Climbs floor (xs ++ ys)
climbs_append floor m [] [] l a b c = tt
climbs_append floor m [] (y ∷ ys) l a b c = (omega (arith, c.0), c.1)
climbs_append floor m (x ∷ xs) ys l a b c = (
  a.0,
  climbs_append (x + 1) m xs ys (omega (arith, b x (or_left (eqb x x) (among xs x) (eq-eqb x x refl)))) a.1 (λ w h. b w (or_right (eqb x w) (among xs w) h)) c,
)

pub climbs_add : (floor c : ℕ) (xs : List ℕ) → Climbs floor xs → Climbs (floor + c) (map (λ x. x + c) xs)
climbs_add floor c [] a = tt
climbs_add floor c (x ∷ xs) a = (
  omega (arith, a.0),
  subst (λ m. Climbs m (map (λ y. y + c) xs)) (let e : x + 1 + c ≡ x + c + 1 = omega arith in e) (climbs_add (x + 1) c xs a.1),
)

above : (floor : ℕ) (xs : List ℕ) → Climbs floor xs → (j : ℕ) → j < length xs → floor ≤ get_or xs j 0
above floor [] c j h = absurd (omega arith)
above floor (x ∷ xs) c zero h = c.0
above floor (x ∷ xs) c (suc j) h = omega (arith, c.0, above (x + 1) xs c.1 j (omega arith))

pub ascending : (floor : ℕ) (xs : List ℕ) → Climbs floor xs → Ascending xs
ascending floor [] c i j l h = absurd (omega arith)
ascending floor (x ∷ xs) c i zero l h = absurd (omega arith)
ascending floor (x ∷ xs) c zero (suc j) l h = omega (arith, above (x + 1) xs c.1 j (omega arith))
ascending floor (x ∷ xs) c (suc i) (suc j) l h = ascending (x + 1) xs c.1 i j (omega arith) (omega arith)
