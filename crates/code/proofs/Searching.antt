-- What the first number that passes a test is.
use Rattle.std.proofs.Common.{◌≡◌, ℕ, zero, suc, ◌+◌, ◌<◌, ◌≤◌, Bool, true, false, Some, None, Option, sym, refl, ap, subst, inl, inr, arith}
use Rattle.std.proofs.lemmas.Bool.{cases_eq, cases_order, both_ways}
use Rattle.code.specs.Search.{least, is_none}

-- o is the first of the numbers from start on, below end, that passes; None if none does
abbrev pub First : (ℕ → Bool) → ℕ → ℕ → Option ℕ → Type 0
First test start end None = (i : ℕ) → start ≤ i → i < end → test i ≡ false
First test start end (Some i) = (start ≤ i) × (i < end) × (test i ≡ true) × ((j : ℕ) → start ≤ j → j < i → test j ≡ false)

-- a start that fails may be passed over
passed : (test : ℕ → Bool) (start end : ℕ) (o : Option ℕ) → test start ≡ false → First test (suc start) end o → First test start end o
passed test start end None e f = λ i a b. elim (cases_eq start i) [ inl p ↦ subst (λ x. test x ≡ false) p e | inr n ↦ f i (omega arith) b ]
passed test start end (Some i) e f =
    (omega (arith, f.0), f.1, f.2, λ j a b. elim (cases_eq start j) [ inl p ↦ subst (λ x. test x ≡ false) p e | inr n ↦ f.3 j (omega arith) b ])

-- one number more at the front
one_more : (test : ℕ → Bool) (start end : ℕ) (rest : Option ℕ) (b : Bool) → start < end → test start ≡ b → First test (suc start) end rest
    → First test start end (elim b [ true ↦ Some start | false ↦ rest ])
one_more test start end rest true l e f = (omega arith, l, e, λ j a b. absurd (omega arith))
one_more test start end rest false l e f = passed test start end rest e f

pub least_first : (test : ℕ → Bool) (start count : ℕ) → First test start (start + count) (least test start count)
least_first test start zero = λ i a b. absurd (omega arith)
least_first test start (suc count) =
    let end : suc start + count ≡ start + suc count = omega arith in
    one_more test start (start + suc count) (least test (suc start) count) (test start) (omega arith) refl
    (subst (λ x. First test (suc start) x (least test (suc start) count)) end (least_first test (suc start) count))

only : (test : ℕ → Bool) (start end : ℕ) (o p : Option ℕ) → First test start end o → First test start end p → o ≡ p
only test start end None None f g = refl
only test start end None (Some i) f g = absurd (both_ways (test i) (f i g.0 g.1) g.2)
only test start end (Some i) None f g = absurd (both_ways (test i) (g i f.0 f.1) f.2)
only test start end (Some i) (Some j) f g = elim (cases_order i j) [
  | inl e ↦ ap Some e
  | inr o ↦ elim o [ inl l ↦ absurd (both_ways (test i) (g.3 i f.0 l) f.2) | inr l ↦ absurd (both_ways (test j) (f.3 j g.0 l) g.2) ]
]

-- whatever is first is what the search finds
pub first_least : (test : ℕ → Bool) (count : ℕ) (o : Option ℕ) → First test 0 count o → least test 0 count ≡ o
first_least test count o f =
    only test 0 count (least test 0 count) o (subst (λ x. First test 0 x (least test 0 count)) (let e : 0 + count ≡ count = omega arith in e) (least_first test 0 count)) f

-- a search that finds nothing has seen each number fail
pub none_fails : (test : ℕ → Bool) (count : ℕ) → is_none (least test 0 count) ≡ true → (i : ℕ) → i < count → test i ≡ false
none_fails test count e i h = at (least test 0 count) e (least_first test 0 count)
  where
    at : (o : Option ℕ) → is_none o ≡ true → First test 0 (0 + count) o → test i ≡ false
    at None e f = f i (omega arith) (omega arith)
    at (Some j) e f = absurd (both_ways true (sym e) refl)

pub fails_none : (test : ℕ → Bool) (count : ℕ) → ((i : ℕ) → i < count → test i ≡ false) → is_none (least test 0 count) ≡ true
fails_none test count f = ap is_none (first_least test count None (λ i a b. f i b))
