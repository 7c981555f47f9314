-- The xor of chosen values is a linear map of the word that chooses them.
use Rattle.std.proofs.Common.{◌≡◌, ℕ, zero, suc, ◌+◌, ◌*◌, ◌/◌, ◌%◌, ◌^◌, ◌<◌, List, [], ◌∷◌, map, length, get_or, sym, refl, ap, ◌∙◌, ap₂, mul_assoc, lt-suc_self, add-mul, one-mul, div-add-mod', zero-mul, add-one, arith, pow_pos}
use native.Mathlib.Nat.{pow-succ'}
use lib.Bits.{bit_xor, xor_zero_l, xor_zero_r, xor_self, xor_comm, xor_lt, xor_shifted}
use lib.Pow.{pow-lt}
use Rattle.std.specs.List.{range_with_len}
use Rattle.code.specs.Words.{pick, combine, unit, place}
use Rattle.code.proofs.Bits.{odd_lt, half_below, half_xor, odd_xor, xor_cross, pow_half, pow_even}

pub pick_xor : (x y v : ℕ) → x < 2 → y < 2 → pick (bit_xor x y) v ≡ bit_xor (pick x v) (pick y v)
pick_xor zero y v h k = sym (xor_zero_l (pick y v))
pick_xor (suc zero) zero v h k = sym (xor_zero_r v)
pick_xor (suc zero) (suc zero) v h k = sym (xor_self v)
pick_xor (suc zero) (suc (suc y)) v h k = absurd (omega arith)
pick_xor (suc (suc x)) y v h k = absurd (omega arith)

pub pick_below : (b v m : ℕ) → 0 < m → v < m → pick b v < m
pick_below zero v m h k = h
pick_below (suc b) v m h k = k

pick_mul : (b v : ℕ) → b < 2 → pick b v ≡ b * v
pick_mul zero v h = sym (zero-mul v)
pick_mul (suc zero) v h = sym (one-mul v)
pick_mul (suc (suc b)) v h = absurd (omega arith)

pub combine_zero : (vs : List ℕ) → combine vs 0 ≡ 0
combine_zero [] = refl
combine_zero (v ∷ vs) = combine_zero vs

pub combine_xor : (vs : List ℕ) (a b : ℕ) → combine vs (bit_xor a b) ≡ bit_xor (combine vs a) (combine vs b)
combine_xor [] a b = refl
combine_xor (v ∷ vs) a b =
    ap₂ (λ x y. bit_xor (pick x v) (combine vs y)) (odd_xor a b) (half_xor a b)
    ∙ (ap₂ bit_xor (pick_xor (a % 2) (b % 2) v (odd_lt a) (odd_lt b)) (combine_xor vs (a / 2) (b / 2))
    ∙ xor_cross (pick (a % 2) v) (pick (b % 2) v) (combine vs (a / 2)) (combine vs (b / 2)))

pub combine_pow : (vs : List ℕ) (j : ℕ) → combine vs (2 ^ j) ≡ get_or vs j 0
combine_pow [] j = refl
combine_pow (v ∷ vs) zero = ap (bit_xor v) (combine_zero vs) ∙ xor_zero_r v
combine_pow (v ∷ vs) (suc j) =
    ap₂ (λ x y. bit_xor (pick x v) (combine vs y)) (pow_even j) (pow_half j) ∙ combine_pow vs j

pub combine_lt : (r : ℕ) (vs : List ℕ) (w : ℕ) → ((i : ℕ) → i < length vs → get_or vs i 0 < 2 ^ r) → combine vs w < 2 ^ r
combine_lt r [] w h = pow_pos r
combine_lt r (v ∷ vs) w h =
    xor_lt r (pick (w % 2) v) (combine vs (w / 2)) (pick_below (w % 2) v (2 ^ r) (pow_pos r) (h 0 (omega arith)))
    (combine_lt r vs (w / 2) (λ i l. h (suc i) (omega arith)))

pub place_lt : (n : ℕ) (js : List ℕ) (d : ℕ) → ((i : ℕ) → i < length js → get_or js i 0 < n) → place js d < 2 ^ n
place_lt n [] d h = pow_pos n
place_lt n (j ∷ js) d h =
    xor_lt n (pick (d % 2) (2 ^ j)) (place js (d / 2)) (pick_below (d % 2) (2 ^ j) (2 ^ n) (pow_pos n) (pow-lt (h 0 (omega arith))))
    (place_lt n js (d / 2) (λ i l. h (suc i) (omega arith)))

-- of a word with bits at the places js, the values at those places are combined
pub combine_place : (cs js : List ℕ) (d : ℕ) → combine cs (place js d) ≡ combine (map (λ j. get_or cs j 0) js) d
combine_place cs [] d = combine_zero cs
combine_place cs (j ∷ js) d =
    combine_xor cs (pick (d % 2) (2 ^ j)) (place js (d / 2)) ∙ ap₂ bit_xor (one (d % 2)) (combine_place cs js (d / 2))
  where
    one : (b : ℕ) → combine cs (pick b (2 ^ j)) ≡ pick b (get_or cs j 0)
    one zero = combine_zero cs
    one (suc b) = combine_pow cs j

-- the units in their order give the word itself, moved up to the first of them
pub combine_units : (i r s : ℕ) → s < 2 ^ r → combine (map unit (range_with_len i r)) s ≡ s * 2 ^ i
combine_units i zero s h = let e : s ≡ 0 = omega arith in sym (ap (λ x. x * 2 ^ i) e ∙ zero-mul (2 ^ i))
combine_units i (suc r) s h =
    let more : combine (map unit (range_with_len (i + 1) r)) (s / 2) ≡ s / 2 * 2 ^ suc i
    = combine_units (i + 1) r (s / 2) (half_below r s h) ∙ ap (λ x. s / 2 * 2 ^ x) (add-one i) in
    let below : pick (s % 2) (2 ^ i) < 2 ^ suc i
    = pick_below (s % 2) (2 ^ i) (2 ^ suc i) (pow_pos (suc i)) (pow-lt (lt-suc_self i)) in
    let sum : bit_xor (pick (s % 2) (2 ^ i)) (s / 2 * 2 ^ suc i) ≡ s / 2 * 2 ^ suc i + pick (s % 2) (2 ^ i)
    = xor_comm (pick (s % 2) (2 ^ i)) (s / 2 * 2 ^ suc i) ∙ xor_shifted (s / 2) (suc i) (pick (s % 2) (2 ^ i)) below in
    let high : s / 2 * 2 ^ suc i ≡ s / 2 * 2 * 2 ^ i = ap (λ x. s / 2 * x) (pow-succ' 2 i) ∙ sym (mul_assoc (s / 2) 2 (2 ^ i)) in
    let whole : s / 2 * 2 * 2 ^ i + s % 2 * 2 ^ i ≡ s * 2 ^ i
    = sym (add-mul (s / 2 * 2) (s % 2) (2 ^ i)) ∙ ap (λ x. x * 2 ^ i) (div-add-mod' s 2) in
    ap (bit_xor (pick (s % 2) (2 ^ i))) more ∙ (sum ∙ (ap₂ (λ x y. x + y) high (pick_mul (s % 2) (2 ^ i) (odd_lt s)) ∙ whole))
