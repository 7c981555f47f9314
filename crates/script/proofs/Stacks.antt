-- Laws of the column values of a drawing.
use Rattle.std.proofs.Common.{◌≡◌, ℕ, zero, suc, ◌+◌, ◌*◌, ◌^◌, ◌<◌, Bool, true, false, cond, List, [], ◌∷◌, replicate, sym, ap, ◌∙◌, subst, pow-suc, add-one, arith, pow_pos}
use Rattle.script.specs.Stacked.{stacked, AllBelow}

-- a column value below 2^i stays below 2^(i+1) in row i
gain_below : (i v : ℕ) (b : Bool) → v < 2 ^ i → v + cond b (2 ^ i) 0 < 2 ^ (i + 1)
gain_below i v b h =
    let e : 2 ^ (i + 1) ≡ 2 ^ i * 2 = ap (λ (x : ℕ). 2 ^ x) (add-one i) ∙ pow-suc 2 i in
    elim b as (λ y. v + cond y (2 ^ i) 0 < 2 ^ (i + 1)) [ true ↦ omega (arith, e) | false ↦ omega (arith, e) ]

stack_below : (i : ℕ) (vs : List ℕ) (row : List Bool) → AllBelow (2 ^ i) vs → AllBelow (2 ^ (i + 1)) (stacked i vs row)
stack_below i [] row h j = pow_pos (i + 1)
stack_below i (v ∷ vs) [] h j = pow_pos (i + 1)
stack_below i (v ∷ vs) (b ∷ bs) h zero = gain_below i v b (h 0)
stack_below i (v ∷ vs) (b ∷ bs) h (suc j) = stack_below i vs bs (λ k. h (suc k)) j

-- what is drawn in row i under values below 2^i is below 2^(i+1)
pub drawn_below : (i : ℕ) (items vs : List ℕ) (row : List Bool) → items ≡ stacked i vs row → AllBelow (2 ^ i) vs → AllBelow (2 ^ (i + 1)) items
drawn_below i items vs row e h = subst (λ l. AllBelow (2 ^ (i + 1)) l) (sym e) (stack_below i vs row h)

-- a blank column has the value 0
pub blank_below : (n : ℕ) → AllBelow 1 (replicate n 0)
blank_below zero j = omega arith
blank_below (suc n) zero = omega arith
blank_below (suc n) (suc j) = blank_below n j
