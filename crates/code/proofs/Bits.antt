-- The bits of a word, one by one.
use Rattle.std.proofs.Common.{◌≡◌, ℕ, zero, suc, ◌/◌, ◌%◌, ◌^◌, ◌<◌, ◌≢◌, ◌⊎◌, sym, refl, ap, ◌∙◌, subst, inl, inr, mod-lt, pow-suc, div-one, add-one, one-add, arith, lit<, shr-shr}
use lib.Bits.{bit_xor, xor_assoc, xor_comm, xor_shr, xor_mod}
use lib.Pow.{pow-lt}
use Rattle.std.proofs.lemmas.Bool.{cases_order}
use Rattle.std.proofs.lemmas.Nat.{shr_below}
use Rattle.code.specs.Words.{bit}

pub two_cases : (x : ℕ) → x < 2 → (x ≡ 0) ⊎ (x ≡ 1)
two_cases zero h = inl refl
two_cases (suc zero) h = inr refl
two_cases (suc (suc x)) h = absurd (omega arith)

pub odd_lt : (x : ℕ) → x % 2 < 2
odd_lt x = mod-lt x (lit< tt)

pub half_below : (n w : ℕ) → w < 2 ^ suc n → w / 2 < 2 ^ n
half_below n w h = shr_below w n 1 (subst (λ x. w < 2 ^ x) (sym (add-one n)) h)

pub half_xor : (a b : ℕ) → bit_xor a b / 2 ≡ bit_xor (a / 2) (b / 2)
half_xor a b = xor_shr a b 1

pub odd_xor : (a b : ℕ) → bit_xor a b % 2 ≡ bit_xor (a % 2) (b % 2)
odd_xor a b = xor_mod a b 1

pub xor_cross : (a b c d : ℕ) → bit_xor (bit_xor a b) (bit_xor c d) ≡ bit_xor (bit_xor a c) (bit_xor b d)
xor_cross a b c d =
    xor_assoc a b (bit_xor c d)
    ∙ (ap (bit_xor a) (sym (xor_assoc b c d) ∙ (ap (λ x. bit_xor x d) (xor_comm b c) ∙ xor_assoc c b d)) ∙ sym (xor_assoc a c (bit_xor b d)))

pub pow_half : (j : ℕ) → 2 ^ suc j / 2 ≡ 2 ^ j
pow_half j = let e = pow-suc 2 j in omega arith

pub pow_even : (j : ℕ) → 2 ^ suc j % 2 ≡ 0
pow_even j = let e = pow-suc 2 j in omega arith

pub pow_injective : (i j : ℕ) → 2 ^ i ≡ 2 ^ j → i ≡ j
pow_injective i j e = elim (cases_order i j) [
  | inl p ↦ p
  | inr q ↦ elim q [ inl l ↦ (let k = pow-lt l in absurd (omega arith)) | inr l ↦ (let k = pow-lt l in absurd (omega arith)) ]
]

pub bit_first : (w : ℕ) → bit w 0 ≡ w % 2
bit_first w = ap (λ x. x % 2) (div-one w)

pub bit_next : (w j : ℕ) → bit w (suc j) ≡ bit (w / 2) j
bit_next w j = ap (λ x. w / 2 ^ x % 2) (sym (one-add j)) ∙ ap (λ x. x % 2) (sym (shr-shr w 1 j))

pub bit_lt : (w j : ℕ) → bit w j < 2
bit_lt w j = odd_lt (w / 2 ^ j)

pub bit-bit_xor : (a b j : ℕ) → bit (bit_xor a b) j ≡ bit_xor (bit a j) (bit b j)
bit-bit_xor a b j = ap (λ x. x % 2) (xor_shr a b j) ∙ odd_xor (a / 2 ^ j) (b / 2 ^ j)

pub bit_none : (j : ℕ) → bit 0 j ≡ 0
bit_none zero = refl
bit_none (suc j) = bit_next 0 j ∙ bit_none j

-- words of n bits that agree in each of them are one word
pub bits_same : (n a b : ℕ) → a < 2 ^ n → b < 2 ^ n → ((j : ℕ) → j < n → bit a j ≡ bit b j) → a ≡ b
bits_same zero a b h k e = omega arith
bits_same (suc n) a b h k e =
    let lo : a % 2 ≡ b % 2 = sym (bit_first a) ∙ (e 0 (omega arith) ∙ bit_first b) in
    let hi : a / 2 ≡ b / 2
    = bits_same n (a / 2) (b / 2) (half_below n a h) (half_below n b k) (λ j l. sym (bit_next a j) ∙ (e (suc j) (omega arith) ∙ bit_next b j)) in
    omega arith

pub bit_pow_same : (j : ℕ) → bit (2 ^ j) j ≡ 1
bit_pow_same zero = refl
bit_pow_same (suc j) = bit_next (2 ^ suc j) j ∙ (ap (λ x. bit x j) (pow_half j) ∙ bit_pow_same j)

pub bit_pow_other : (i j : ℕ) → i ≢ j → bit (2 ^ i) j ≡ 0
bit_pow_other zero zero h = absurd (h refl)
bit_pow_other zero (suc j) h = bit_next 1 j ∙ bit_none j
bit_pow_other (suc i) zero h = bit_first (2 ^ suc i) ∙ pow_even i
bit_pow_other (suc i) (suc j) h =
    bit_next (2 ^ suc i) j ∙ (ap (λ x. bit x j) (pow_half i) ∙ bit_pow_other i j (λ e. h (ap suc e)))
