-- What the first element that passes a test is.
use Rattle.std.proofs.Common.{◌≡◌, ℕ, zero, suc, ◌<◌, Bool, true, false, List, [], ◌∷◌, length, get_or, Some, None, sym, refl, ◌∙◌, inl, inr, arith}
use Rattle.std.proofs.lemmas.Bool.{cases_Bool, cond-false, cond-true}
use Rattle.std.specs.List.{find}

-- the element at the place i passes, and none before it does
pub record FirstAt (test : ℕ → Bool) (xs : List ℕ) (i : ℕ) : Type 0 where
  pub inside : i < length xs
  pub passes : test (get_or xs i 0) ≡ true
  pub before : (j : ℕ) → j < i → test (get_or xs j 0) ≡ false

-- no element passes
abbrev pub NonePasses : (ℕ → Bool) → List ℕ → Type 0
NonePasses test xs = (j : ℕ) → j < length xs → test (get_or xs j 0) ≡ false

pub find_first : (test : ℕ → Bool) (xs : List ℕ) (i : ℕ) → FirstAt test xs i → find test xs ≡ Some (get_or xs i 0)
find_first test [] i f = absurd (let h = f.inside in omega arith)
find_first test (x ∷ xs) zero f = cond-true (test x) (Some x) (find test xs) f.passes
find_first test (x ∷ xs) (suc i) f =
    let later : FirstAt test xs i = record { inside = (let h = f.inside in omega arith); passes = f.passes; before = λ j l. f.before (suc j) (omega arith) } in
    cond-false (test x) (Some x) (find test xs) (f.before 0 (omega arith)) ∙ find_first test xs i later

pub find_none : (test : ℕ → Bool) (xs : List ℕ) → NonePasses test xs → find test xs ≡ None
find_none test [] f = refl
find_none test (x ∷ xs) f = cond-false (test x) (Some x) (find test xs) (f 0 (omega arith)) ∙ find_none test xs (λ j l. f (suc j) (omega arith))

-- what was found stands at the first place that passes
pub found : (test : ℕ → Bool) (xs : List ℕ) (p : ℕ) → find test xs ≡ Some p → (i : ℕ) × FirstAt test xs i × (get_or xs i 0 ≡ p)
found test [] p e = absurd (let k : ⊥ = cc in k)
found test (x ∷ xs) p e = elim (cases_Bool (test x)) [
  | inl y ↦
      (let same : Some x ≡ Some p = sym (cond-true (test x) (Some x) (find test xs) y) ∙ e in
      let x-is : x ≡ p = cc in
      (0, record { inside = omega arith; passes = y; before = λ j l. absurd (omega arith) }, x-is))
  | inr n ↦
      (let k = found test xs p (sym (cond-false (test x) (Some x) (find test xs) n) ∙ e) in
      (suc k.0, record { inside = (let h = k.1.inside in omega arith); passes = k.1.passes; before = first_fails k.0 n k.1.before }, k.2))
]
  where
    first_fails : (i : ℕ) → test x ≡ false → ((j : ℕ) → j < i → test (get_or xs j 0) ≡ false) → (j : ℕ) → j < suc i → test (get_or (x ∷ xs) j 0) ≡ false
    first_fails i n f zero l = n
    first_fails i n f (suc j) l = f j (omega arith)

-- nothing was found: no element passes
pub unfound : (test : ℕ → Bool) (xs : List ℕ) → find test xs ≡ None → NonePasses test xs
unfound test [] e j l = absurd (omega arith)
unfound test (x ∷ xs) e j l = elim (cases_Bool (test x)) [
  | inl y ↦ absurd (let same : Some x ≡ None = sym (cond-true (test x) (Some x) (find test xs) y) ∙ e in let k : ⊥ = cc in k)
  | inr n ↦ at j l n (unfound test xs (sym (cond-false (test x) (Some x) (find test xs) n) ∙ e))
]
  where
    at : (j : ℕ) → j < length (x ∷ xs) → test x ≡ false → NonePasses test xs → test (get_or (x ∷ xs) j 0) ≡ false
    at zero l n f = n
    at (suc j) l n f = f j (omega arith)
