-- The lowest one bit of a word: where it stands, and the word without it. The word has fewer than k bits, for any k.
use Rattle.std.proofs.Common.{◌≡◌, ℕ, zero, suc, ◌+◌, ◌-◌, ◌*◌, ◌/◌, ◌%◌, ◌^◌, ◌<◌, ◌≤◌, List, get_or, sym, ap, ◌∙◌, ap₂, inl, inr, add-zero, mul_assoc, mul_comm, add-mul, one-mul, pow-suc, mul-one, arith, pow_pos, pow_mono}
use lib.Bits.{bit_and, bit_xor, and_block, and_self, and_zero_l, xor_assoc, xor_shifted, xor_comm, xor_zero_r}
use lib.Count.{count_trailing_zeros, under}
use Rattle.std.proofs.lemmas.Bool.{cases_lt}
use Rattle.code.specs.Words.{combine}
use Rattle.code.proofs.Bits.{two_cases, odd_lt, half_below}
use Rattle.code.proofs.Combining.{combine_zero, combine_xor, combine_pow}

-- w is odd after as many halvings as it has trailing zeros
abbrev pub Split : ℕ → ℕ → ℕ → Type 0
Split w j q = w ≡ (q * 2 + 1) * 2 ^ j

pub split_at : (k w : ℕ) → 0 < w → w < 2 ^ k → (q : ℕ) × Split w (count_trailing_zeros k w) q
unfolding count_trailing_zeros
split_at zero w p h = absurd (omega arith)
split_at (suc k) w p h =
    elim (two_cases (w % 2) (odd_lt w)) [
      | inl z ↦
          (let half : 0 < w / 2 = omega arith in
          let j = count_trailing_zeros k (w / 2) in
          let more = split_at k (w / 2) half (half_below k w h) in
          let here : count_trailing_zeros (suc k) w ≡ suc j = ap (λ x. under x j) z in
          let twice : w ≡ w / 2 * 2 = omega arith in
          let moved = mul_assoc (more.0 * 2 + 1) (2 ^ j) 2 in (
            more.0,
            twice ∙ (ap (λ x. x * 2) more.1 ∙ (moved ∙ (ap (λ x. (more.0 * 2 + 1) * x) (sym (pow-suc 2 j)) ∙ ap (λ x. (more.0 * 2 + 1) * 2 ^ x) (sym here)))),
          ))
      | inr o ↦
          (let here : count_trailing_zeros (suc k) w ≡ 0 = ap (λ x. under x (count_trailing_zeros k (w / 2))) o in
          let m = mul-one (w / 2 * 2 + 1) in
          let whole : w ≡ (w / 2 * 2 + 1) * 2 ^ 0 = omega arith in
          (w / 2, whole ∙ ap (λ x. (w / 2 * 2 + 1) * 2 ^ x) (sym here)))
    ]

and_odd : (q : ℕ) → bit_and (q * 2 + 1) (q * 2) ≡ q * 2
and_odd q =
    ap (bit_and (q * 2 + 1)) (sym (add-zero (q * 2)))
    ∙ (and_block 1 q q 1 0 (omega arith) (omega arith) ∙ (ap (λ x. x * 2 + 0) (and_self q) ∙ add-zero (q * 2)))

-- what is left without the lowest one
cleared : (q j w : ℕ) → Split w j q → bit_and w (w - 1) ≡ q * 2 * 2 ^ j
cleared q j w e =
    let p = pow_pos j in
    let a = add-mul (q * 2) 1 (2 ^ j) in
    let o = one-mul (2 ^ j) in
    let hi : w ≡ (q * 2 + 1) * 2 ^ j + 0 = omega arith in
    let lo : w - 1 ≡ q * 2 * 2 ^ j + (2 ^ j - 1) = omega arith in
    ap₂ bit_and hi lo
    ∙ (and_block j (q * 2 + 1) (q * 2) 0 (2 ^ j - 1) (omega arith) (omega arith)
    ∙ (ap₂ (λ x y. x * 2 ^ j + y) (and_odd q) (and_zero_l (2 ^ j - 1)) ∙ add-zero (q * 2 * 2 ^ j)))

-- the word is what is left, xor the lowest one
rejoined : (q j w : ℕ) → Split w j q → w ≡ bit_xor (q * 2 * 2 ^ j) (2 ^ j)
rejoined q j w e =
    let s = pow-suc 2 j in
    let p = pow_pos j in
    let a = add-mul (q * 2) 1 (2 ^ j) in
    let o = one-mul (2 ^ j) in
    let moved : q * 2 * 2 ^ j ≡ q * 2 ^ suc j = mul_assoc q 2 (2 ^ j) ∙ ap (λ x. q * x) (mul_comm 2 (2 ^ j) ∙ sym s) in
    let sum : bit_xor (q * 2 ^ suc j) (2 ^ j) ≡ q * 2 ^ suc j + 2 ^ j = xor_shifted q (suc j) (2 ^ j) (omega arith) in
    let whole : w ≡ q * 2 ^ suc j + 2 ^ j = omega arith in
    whole ∙ (sym sum ∙ ap (λ z. bit_xor z (2 ^ j)) (sym moved))

lowest_le : (q j w : ℕ) → Split w j q → 2 ^ j ≤ w
lowest_le q j w e = let a = add-mul (q * 2) 1 (2 ^ j) in let o = one-mul (2 ^ j) in omega arith

pub below_exponent : (j n w : ℕ) → 2 ^ j ≤ w → w < 2 ^ n → j < n
below_exponent j n w l h = elim (cases_lt j n) [ inl a ↦ a | inr b ↦ (let m = pow_mono {i = n} {j = j} b in absurd (omega arith)) ]

-- the lowest one stands below the width
pub lowest_below : (k n w : ℕ) → 0 < w → w < 2 ^ k → w < 2 ^ n → count_trailing_zeros k w < n
lowest_below k n w p h l =
    let s = split_at k w p h in below_exponent (count_trailing_zeros k w) n w (lowest_le s.0 (count_trailing_zeros k w) w s.1) l

-- one turn of a loop over the one bits: sum has taken the ones that rest lacks, and takes the value v of the lowest one of rest
pub take_lowest : (vs : List ℕ) (k rest sum v t : ℕ) → 0 < rest → rest < 2 ^ k → bit_xor sum (combine vs rest) ≡ t → v ≡ get_or vs (count_trailing_zeros k rest) 0
    → bit_xor (bit_xor sum v) (combine vs (bit_and rest (rest - 1))) ≡ t
take_lowest vs k rest sum v t p h inv e =
    let s = split_at k rest p h in
    let j = count_trailing_zeros k rest in
    let left = s.0 * 2 * 2 ^ j in
    let parts : combine vs rest ≡ bit_xor v (combine vs (bit_and rest (rest - 1)))
    = ap (combine vs) (rejoined s.0 j rest s.1)
    ∙ (combine_xor vs left (2 ^ j)
    ∙ (xor_comm (combine vs left) (combine vs (2 ^ j))
    ∙ ap₂ (λ x y. bit_xor x (combine vs y)) (combine_pow vs j ∙ sym e) (sym (cleared s.0 j rest s.1)))) in
    xor_assoc sum v (combine vs (bit_and rest (rest - 1))) ∙ (ap (bit_xor sum) (sym parts) ∙ inv)

-- the end of that loop
pub taken_all : (vs : List ℕ) (rest sum t : ℕ) → rest ≡ 0 → bit_xor sum (combine vs rest) ≡ t → sum ≡ t
taken_all vs rest sum t z inv = sym (xor_zero_r sum) ∙ (ap (bit_xor sum) (sym (ap (combine vs) z ∙ combine_zero vs)) ∙ inv)
