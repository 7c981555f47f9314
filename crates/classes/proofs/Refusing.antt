-- The first refusal of some elements: the steps of a loop that looks for it, and what an opening that refuses nothing knows.
use Rattle.std.proofs.Common.{◌≡◌, ℕ, zero, suc, ◌+◌, ◌<◌, ◌≤◌, Bool, true, false, leb, ◌⊎◌, List, [], ◌∷◌, ◌++◌, length, get_or, drop, Some, None, Option, sym, refl, ap, ◌∙◌, subst, inl, inr, add-zero, zero-add, arith}
use Rattle.std.proofs.lemmas.List.{at_drop_more, at_drop_all}
use Rattle.std.proofs.lemmas.Bool.{and_from, and_parts, both_ways, cases_Bool, le-leb, leb-true}
use Rattle.code.specs.Limits.{least_columns, most_columns}
use Rattle.code.specs.Opening.{unless}
use Rattle.code.specs.declared.refusal.Refusal.{Refusal}
use Rattle.code.specs.declared.refusal.Refusal.TheVariants.{OutOfBounds}
use Rattle.classes.specs.Opening.{Fit, Tells, good_width, or_else, first_refusal, elements_refusal}

-- the element at i is refused, and none before
pub refused_here : {X : Type 0} (f : ℕ → X → Option Refusal) (xs : List X) (i : ℕ) (d : X) (e : Refusal) (all : Option Refusal) → i < length xs → f i (get_or xs i d) ≡ Some e
    → first_refusal f i (drop i xs) ≡ all → all ≡ Some e
refused_here f xs i d e all h r inv =
    sym inv ∙ (at_drop_more (first_refusal f i) xs i d h ∙ ap (λ o. or_else o (first_refusal f (i + 1) (drop (i + 1) xs))) r)

-- the element at i passes too
pub passed_here : {X : Type 0} (f : ℕ → X → Option Refusal) (xs : List X) (i : ℕ) (d : X) (all : Option Refusal) → i < length xs → f i (get_or xs i d) ≡ None
    → first_refusal f i (drop i xs) ≡ all → first_refusal f (i + 1) (drop (i + 1) xs) ≡ all
passed_here f xs i d all h r inv =
    sym (at_drop_more (first_refusal f i) xs i d h ∙ ap (λ o. or_else o (first_refusal f (i + 1) (drop (i + 1) xs))) r) ∙ inv

pub passed_all : {X : Type 0} (f : ℕ → X → Option Refusal) (xs : List X) (i : ℕ) (all : Option Refusal) → length xs ≤ i → first_refusal f i (drop i xs) ≡ all → all ≡ None
passed_all f xs i all h inv = sym inv ∙ at_drop_all (first_refusal f i) xs i h

pub passed : (b : Bool) (r : Refusal) (o : Option Refusal) → unless b r o ≡ None → (b ≡ true) × (o ≡ None)
passed true r o e = (refl, e)
passed false r o e = let z : ◌≡◌ {A = ℕ} 0 1 = cc in absurd (omega arith)

-- neither of two is refused
pub both : (a b : Option Refusal) → or_else a b ≡ None → (a ≡ None) × (b ≡ None)
both None b e = (refl, e)
both (Some r) b e = let z : ◌≡◌ {A = ℕ} 0 1 = cc in absurd (omega arith)

-- where nothing is refused, no element is
passed_each : {X : Type 0} (f : ℕ → X → Option Refusal) (i : ℕ) (xs : List X) → first_refusal f i xs ≡ None → (k : ℕ) (d : X) → k < length xs → f (i + k) (get_or xs k d) ≡ None
passed_each f i [] e k d h = absurd (omega arith)
passed_each f i (x ∷ xs) e zero d h = subst (λ j. f j x ≡ None) (sym (add-zero i)) (both (f i x) _ e).0
passed_each f i (x ∷ xs) e (suc k) d h =
    subst (λ j. f j (get_or xs k d) ≡ None) (let s : i + 1 + k ≡ i + suc k = omega arith in s) (passed_each f (i + 1) xs (both (f i x) _ e).1 k d (omega arith))

-- the elements begin at the index i
abbrev RefusedFrom : {X : Type 0} → (ℕ → X → Option Refusal) → ℕ → List X → Refusal → Type 0
RefusedFrom {X} f i xs e = (k : ℕ) × (k < length xs) × ((d : X) → f (i + k) (get_or xs k d) ≡ Some e) × ((j : ℕ) (d : X) → j < k → f (i + j) (get_or xs j d) ≡ None)

-- the first passes, and a later one is refused
later : {X : Type 0} (f : ℕ → X → Option Refusal) (i : ℕ) (x : X) (xs : List X) (e : Refusal) → f i x ≡ None → RefusedFrom f (i + 1) xs e → RefusedFrom f i (x ∷ xs) e
later {X} f i x xs e n r = (
  suc r.0,
  omega (arith, r.1),
  (λ d. subst (λ j. f j (get_or xs r.0 d) ≡ Some e) (let s : i + 1 + r.0 ≡ i + suc r.0 = omega arith in s) (r.2 d)),
  before,
)
  where
    before : (j : ℕ) (d : X) → j < suc r.0 → f (i + j) (get_or (x ∷ xs) j d) ≡ None
    before zero d h = subst (λ j. f j x ≡ None) (sym (add-zero i)) n
    before (suc j) d h = subst (λ k. f k (get_or xs j d) ≡ None) (let s : i + 1 + j ≡ i + suc j = omega arith in s) (r.3 j d (omega arith))

option_cases : (o : Option Refusal) → (o ≡ None) ⊎ ((r : Refusal) × (o ≡ Some r))
option_cases None = inl refl
option_cases (Some r) = inr (r, refl)

-- what is refused, the first refused element says
first_found : {X : Type 0} (f : ℕ → X → Option Refusal) (i : ℕ) (xs : List X) (e : Refusal) → first_refusal f i xs ≡ Some e → RefusedFrom f i xs e
first_found f i [] e q = let z : ◌≡◌ {A = ℕ} 0 1 = cc in absurd (omega arith)
first_found f i (x ∷ xs) e q = elim (option_cases (f i x)) [
  | inl n ↦ later f i x xs e n (first_found f (i + 1) xs e (ap (λ o. or_else o (first_refusal f (i + 1) xs)) (sym n) ∙ q))
  | inr r ↦
      (let same : Some r.0 ≡ Some e = ap (λ o. or_else o (first_refusal f (i + 1) xs)) (sym r.1) ∙ q in
      (0, omega arith, (λ d. subst (λ j. f j x ≡ Some e) (sym (add-zero i)) (r.1 ∙ same)), (λ j d h. absurd (omega arith))))
]

-- ---- an opening in words

told : {X : Type 0} (n most : ℕ) (f : ℕ → X → Option Refusal) (xs : List X) → Fit n (length xs) most → (o : Option Refusal) → first_refusal f 0 xs ≡ o → Tells n most f xs o
told n most f xs fit None e = (fit, (λ i d h. subst (λ j. f j (get_or xs i d) ≡ None) (zero-add i) (passed_each f 0 xs e i d h)))
told n most f xs fit (Some r) e =
    let k = first_found f 0 xs r e in
    inr
    (fit, (k.0, k.1, (λ d. subst (λ j. f j (get_or xs k.0 d) ≡ Some r) (zero-add k.0) (k.2 d)), (λ j d h. subst (λ i. f i (get_or xs j d) ≡ None) (zero-add j) (k.3 j d h))))

pub tells : {X : Type 0} (n most : ℕ) (f : ℕ → X → Option Refusal) (xs : List X)
    → Tells n most f xs (unless (good_width n) OutOfBounds (unless (leb (length xs) most) OutOfBounds (first_refusal f 0 xs)))
tells n most f xs = elim (cases_Bool (good_width n)) [
  | inr b ↦ rw b (inl ((λ fit. both_ways (good_width n) b (and_from (leb least_columns n) (leb n most_columns) (le-leb least_columns n fit.0) (le-leb n most_columns fit.1))), refl))
  | inl a ↦ rw a (elim (cases_Bool (leb (length xs) most)) [
    | inr b ↦ rw b (inl ((λ fit. both_ways (leb (length xs) most) b (le-leb (length xs) most fit.2)), refl))
    | inl b ↦ rw b (let p = and_parts (leb least_columns n) (leb n most_columns) a in told n most f xs (leb-true least_columns n p.0, leb-true n most_columns p.1, leb-true (length xs) most b) (first_refusal f 0 xs) refl)
  ])
]

-- one element more at the end
pub refusal_push : {X : Type 0} (f : ℕ → X → Option Refusal) (i j : ℕ) (xs : List X) (x : X) → i + length xs ≡ j → first_refusal f i xs ≡ None → first_refusal f i (xs ++ (x ∷ [])) ≡ f j x
refusal_push f i j [] x s e = last (f i x) ∙ ap (λ k. f k x) (sym (add-zero i) ∙ s)
  where
    last : (o : Option Refusal) → or_else o None ≡ o
    last None = refl
    last (Some r) = refl
refusal_push f i j (y ∷ ys) x s e =
    let p = both (f i y) _ e in
    ap (λ o. or_else o (first_refusal f (i + 1) (ys ++ (x ∷ [])))) p.0 ∙ refusal_push f (i + 1) j ys x (omega arith) p.1

-- in bounds, an opening refuses the first element that is not taken
pub decided : {X : Type 0} (f : ℕ → X → Option Refusal) (most n : ℕ) (xs : List X) → good_width n ≡ true → length xs ≤ most → elements_refusal most f n xs ≡ first_refusal f 0 xs
decided f most n xs g l = rw (g, le-leb (length xs) most l) refl

-- what is known where it refuses nothing
pub settled : {X : Type 0} (f : ℕ → X → Option Refusal) (most n : ℕ) (xs : List X) → elements_refusal most f n xs ≡ None → (length xs ≤ most) × (first_refusal f 0 xs ≡ None)
settled f most n xs e =
    let p = passed (good_width n) OutOfBounds _ e in
    let q = passed (leb (length xs) most) OutOfBounds (first_refusal f 0 xs) p.1 in
    (leb-true (length xs) most q.0, q.1)
