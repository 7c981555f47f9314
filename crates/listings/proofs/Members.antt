-- Which numbers a joined or a mapped list holds, and each of its places by number.
use Rattle.std.proofs.Common.{◌≡◌, ℕ, ◌<◌, true, false, cond, ◌||◌, eqb, ◌⊎◌, List, [], ◌∷◌, ◌++◌, map, length, get_or, Ok, Err, sym, refl, ap, ◌∙◌, inl, inr}
use Rattle.std.proofs.lemmas.Bool.{eq-eqb, eqb-true, false≢true, lt-ltb, or_cases, or_left, or_right}
use Rattle.code.specs.Search.{among}
use Rattle.code.specs.declared.refusal.Refusal.TheVariants.{BeyondEnd}
use Rattle.listings.specs.Lawful.{pattern_at}

pub among_append : (xs ys : List ℕ) (q : ℕ) → among (xs ++ ys) q ≡ (among xs q || among ys q)
among_append [] ys q = refl
among_append (x ∷ xs) ys q =
    elim (eqb x q) as (λ b. (b || among (xs ++ ys) q) ≡ ((b || among xs q) || among ys q)) [ true ↦ refl | false ↦ among_append xs ys q ]

pub append_cases : (xs ys : List ℕ) (q : ℕ) → among (xs ++ ys) q ≡ true → (among xs q ≡ true) ⊎ (among ys q ≡ true)
append_cases xs ys q e = or_cases (among xs q) (among ys q) (sym (among_append xs ys q) ∙ e)

pub append_left : (xs ys : List ℕ) (q : ℕ) → among xs q ≡ true → among (xs ++ ys) q ≡ true
append_left xs ys q e = among_append xs ys q ∙ or_left (among xs q) (among ys q) e

pub append_right : (xs ys : List ℕ) (q : ℕ) → among ys q ≡ true → among (xs ++ ys) q ≡ true
append_right xs ys q e = among_append xs ys q ∙ or_right (among xs q) (among ys q) e

pub among_map : (f : ℕ → ℕ) (xs : List ℕ) (x : ℕ) → among xs x ≡ true → among (map f xs) (f x) ≡ true
among_map f [] x e = absurd (false≢true e)
among_map f (y ∷ ys) x e = elim (or_cases (eqb y x) (among ys x) e) [
  | inl h ↦ or_left (eqb (f y) (f x)) (among (map f ys) (f x)) (eq-eqb (f y) (f x) (ap f (eqb-true y x h)))
  | inr h ↦ or_right (eqb (f y) (f x)) (among (map f ys) (f x)) (among_map f ys x h)
]

pub map_among : (f : ℕ → ℕ) (xs : List ℕ) (q : ℕ) → among (map f xs) q ≡ true → (x : ℕ) × (among xs x ≡ true) × (f x ≡ q)
map_among f [] q e = absurd (false≢true e)
map_among f (y ∷ ys) q e = elim (or_cases (eqb (f y) q) (among (map f ys) q) e) [
  | inl h ↦ (y, or_left (eqb y y) (among ys y) (eq-eqb y y refl), eqb-true (f y) q h)
  | inr h ↦ (let k = map_among f ys q h in (k.0, or_right (eqb y k.0) (among ys k.0) k.1, k.2))
]

-- ---- the pattern at a number

pub at_in : (ps : List ℕ) (i p : ℕ) → i < length ps → p ≡ get_or ps i 0 → Ok p ≡ pattern_at ps i
at_in ps i p h e = ap Ok e ∙ sym (ap (λ b. cond b (Ok (get_or ps i 0)) (Err BeyondEnd)) (lt-ltb i (length ps) h))
