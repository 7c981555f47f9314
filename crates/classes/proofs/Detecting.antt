-- The detectable patterns: listed by the second class and not by the first.
use Rattle.std.proofs.Common.{◌≡◌, ℕ, Bool, true, not, ◌||◌, eqb, List, [], ◌∷◌, filter, sym, subst, inl, inr}
use Rattle.std.proofs.lemmas.Bool.{cases_Bool, eqb-true, false≢true, not_from_false, not-true, or_cases, or_left, or_right}
use Rattle.code.specs.Search.{among}
use Rattle.listings.specs.Lawful.{Lawful}
use Rattle.classes.specs.Duties.{Detects}

-- a filter keeps just what passes
kept_only : (test : ℕ → Bool) (qs : List ℕ) (q : ℕ) → among (filter test qs) q ≡ true → (among qs q ≡ true) × (test q ≡ true)
kept_only test [] q e = absurd (false≢true e)
kept_only test (x ∷ xs) q e = elim (cases_Bool (test x)) [
  | inl y ↦
      (let e' : (eqb x q || among (filter test xs) q) ≡ true = rw y at e in
      elim (or_cases (eqb x q) (among (filter test xs) q) e') [
        | inl s ↦ (or_left (eqb x q) (among xs q) s, subst (λ z. test z ≡ true) (eqb-true x q s) y)
        | inr h ↦ (let k = kept_only test xs q h in (or_right (eqb x q) (among xs q) k.0, k.1))
      ])
  | inr n ↦
      (let e' : among (filter test xs) q ≡ true = rw n at e in
      let k = kept_only test xs q e' in
      (or_right (eqb x q) (among xs q) k.0, k.1))
]

kept_every : (test : ℕ → Bool) (qs : List ℕ) (q : ℕ) → among qs q ≡ true → test q ≡ true → among (filter test qs) q ≡ true
kept_every test [] q e t = absurd (false≢true e)
kept_every test (x ∷ xs) q e t = elim (or_cases (eqb x q) (among xs q) e) [
  | inl s ↦ (let y : test x ≡ true = subst (λ z. test z ≡ true) (sym (eqb-true x q s)) t in rw y (or_left (eqb x q) (among (filter test xs) q) s))
  | inr h ↦ elim (cases_Bool (test x)) [
    | inl y ↦ rw y (or_right (eqb x q) (among (filter test xs) q) (kept_every test xs q h t))
    | inr n ↦ rw n (kept_every test xs q h t)
  ]
]

pub detects : (m : ℕ) (ps qs : List ℕ) → Lawful m qs → Detects m ps qs
detects m ps qs law q = (
  (λ e. let k = kept_only (λ x. not (among ps x)) qs q e in (k.0, not-true (among ps q) k.1, law.each q k.0)),
  λ k. kept_every (λ x. not (among ps x)) qs q k.0 (not_from_false (among ps q) k.1),
)

-- ---- one more place of the second listing
