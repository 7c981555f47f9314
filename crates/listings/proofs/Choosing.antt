-- How many ways there are to choose t of n columns: written out for t up to 3, growing with n, few enough, and by factorials.
use Rattle.std.proofs.Common.{◌≡◌, ℕ, zero, suc, ◌+◌, ◌-◌, ◌*◌, ◌<◌, ◌≤◌, sym, refl, ap, ◌∙◌, subst, ap₂, inl, inr, mul_assoc, suc-mul, add-mul, one-mul, mul-suc, mul_left_comm, arith}
use Rattle.std.proofs.lemmas.Nat.{mul-le}
use Rattle.std.proofs.lemmas.Bool.{cases_lt}
use Rattle.code.specs.Limits.{most_columns}
use Rattle.listings.specs.Limits.{most_ones}
use Rattle.listings.specs.Listings.{choose, factorial}
use Rattle.listings.specs.Subject.{Chosen}

pub choose_one : (n : ℕ) → choose n 1 ≡ n
choose_one zero = refl
choose_one (suc n) = let h = choose_one n in omega arith

square : (n : ℕ) → suc n * suc n ≡ n * n + n + n + 1
square n = let a = suc-mul n (suc n) in let b = mul-suc n n in omega arith

cube : (n : ℕ) → suc n * suc n * suc n ≡ n * n * n + n * n * 3 + n * 3 + 1
cube n =
    let s = square n in
    let a = mul-suc (suc n * suc n) n in
    let b : suc n * suc n * n ≡ (n * n + n + n + 1) * n = ap (λ x. x * n) s in
    let c = add-mul (n * n + n + n) 1 n in
    let d = add-mul (n * n + n) n n in
    let e = add-mul (n * n) n n in
    let o = one-mul n in
    omega arith

pub choose_two : (n : ℕ) → choose n 2 * 2 + n ≡ n * n
choose_two zero = refl
choose_two (suc n) = let h = choose_two n in let o = choose_one n in let s = square n in omega arith

pub choose_three : (n : ℕ) → choose n 3 * 6 + n * n * 3 ≡ n * n * n + n * 2
choose_three zero = refl
choose_three (suc n) = let h = choose_three n in let t = choose_two n in let s = square n in let c = cube n in omega arith

-- an eighth of what a class may list
abbrev pub eighth : ℕ
eighth = 125000

pub choose_few : (n t : ℕ) → n ≤ most_columns → t ≤ most_ones → choose n t ≤ eighth
choose_few n zero h m = omega arith
choose_few n (suc zero) h m = let e = choose_one n in omega arith
choose_few n (suc (suc zero)) h m = let e = choose_two n in let a = mul-le n n most_columns most_columns h h in omega arith
choose_few n (suc (suc (suc zero))) h m =
    let e = choose_three n in
    let a = mul-le n n most_columns most_columns h h in
    let b = mul-le (n * n) n (most_columns * most_columns) most_columns a h in
    omega arith
choose_few n (suc (suc (suc (suc t)))) h m = absurd (omega arith)

choose_up : (n t : ℕ) → choose n t ≤ choose (suc n) t
choose_up n zero = omega arith
choose_up n (suc t) = omega arith

pub choose_mono : (c n t : ℕ) → c ≤ n → choose c t ≤ choose n t
choose_mono c zero t h = let e : c ≡ 0 = omega arith in subst (λ x. choose x t ≤ choose zero t) (sym e) (omega arith)
choose_mono c (suc n) t h = elim (cases_lt c (suc n)) [
  | inl l ↦ (let i = choose_mono c n t (omega arith) in let u = choose_up n t in omega arith)
  | inr g ↦ (let e : c ≡ suc n = omega arith in subst (λ x. choose x t ≤ choose (suc n) t) (sym e) (omega arith))
]

pub choose_none : (t : ℕ) → 1 ≤ t → choose 0 t ≡ 0
choose_none zero h = absurd (omega arith)
choose_none (suc t) h = refl

pub choose_some : (n t i : ℕ) → 1 ≤ t → i < choose n t → 0 < n
choose_some zero t i h l = let z = choose_none t h in absurd (omega arith)
choose_some (suc n) t i h l = omega arith

-- ---- n choose t by factorials

choose_over : (n t : ℕ) → n < t → choose n t ≡ 0
choose_over n zero h = absurd (omega arith)
choose_over zero (suc t) h = refl
choose_over (suc n) (suc t) h = let a = choose_over n (suc t) (omega arith) in let b = choose_over n t (omega arith) in omega arith

-- a factor comes to the front
last_out : (a b k c : ℕ) → a * (b * (k * c)) ≡ k * (a * (b * c))
last_out a b k c = ap (λ x. a * x) (mul_left_comm b k c) ∙ mul_left_comm a k (b * c)

middle_out : (a k b c : ℕ) → a * (k * b * c) ≡ k * (a * (b * c))
middle_out a k b c = ap (λ x. a * x) (mul_assoc k b c) ∙ mul_left_comm a k (b * c)

chosen : (n t m : ℕ) → t + m ≡ n → choose n t * (factorial t * factorial m) ≡ factorial n
chosen n zero m e = one-mul (1 * factorial m) ∙ (one-mul (factorial m) ∙ ap factorial (let s : m ≡ n = omega arith in s))
chosen zero (suc t) m e = absurd (omega arith)
chosen (suc n) (suc t) zero e =
    let same : t ≡ n = omega arith in
    let none : choose n (suc t) + choose n t ≡ choose n t = let z = choose_over n (suc t) (omega arith) in omega arith in
    ap (λ x. x * (factorial (suc t) * factorial 0)) none
    ∙ (middle_out (choose n t) (suc t) (factorial t) (factorial 0)
    ∙ (ap (λ x. suc t * x) (chosen n t zero (omega arith)) ∙ ap (λ x. suc x * factorial n) same))
chosen (suc n) (suc t) (suc m) e =
    let a : choose n (suc t) * (factorial (suc t) * factorial (suc m)) ≡ suc m * factorial n
    = last_out (choose n (suc t)) (factorial (suc t)) (suc m) (factorial m) ∙ ap (λ x. suc m * x) (chosen n (suc t) m (omega arith)) in
    let b : choose n t * (factorial (suc t) * factorial (suc m)) ≡ suc t * factorial n
    = middle_out (choose n t) (suc t) (factorial t) (factorial (suc m)) ∙ ap (λ x. suc t * x) (chosen n t (suc m) (omega arith)) in
    add-mul (choose n (suc t)) (choose n t) (factorial (suc t) * factorial (suc m))
    ∙ (ap₂ ◌+◌ a b ∙ (sym (add-mul (suc m) (suc t) (factorial n)) ∙ ap (λ x. x * factorial n) (let s : suc m + suc t ≡ suc n = omega arith in s)))

pub choose_chosen : (n t : ℕ) → t ≤ n → Chosen n t (choose n t)
choose_chosen n t h = (refl, chosen n t (n - t) (omega arith))
