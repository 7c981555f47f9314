-- Burst errors: the listing holds exactly the runs of l ones, it rises, and it is a class's listing. All that others know of the burst listing stands here.
use Rattle.std.proofs.Common.{◌≡◌, ℕ, zero, suc, ◌+◌, ◌-◌, ◌*◌, ◌/◌, ◌%◌, ◌^◌, ◌<◌, ◌≤◌, true, length, get_or, sym, ap, ◌∙◌, subst, ap₂, inl, inr, mul-le-mul_right, mul_assoc, pow-suc, mul-one, arith, pow_pos, pow_mono, pow-add}
use native.Mathlib.Nat.{mul-lt-mul_of_pos_left, div-eq_of_lt}
use lib.Count.{count_trailing_zeros, under}
use lib.Pow.{shl-shr}
use Rattle.std.proofs.lemmas.Nat.{shl_below, mul-le, pow_below}
use Rattle.std.proofs.lemmas.List.FromFn.{length-map-range_with_len, get_or-map-range_with_len}
use Rattle.std.proofs.lemmas.Bool.{cases_lt}
use Rattle.code.proofs.Bits.{bit_first, bit_next, bits_same}
use Rattle.code.proofs.Lowest.{split_at, below_exponent}
use Rattle.code.proofs.Members.{among_at, place_of}
use Rattle.code.specs.Limits.{most_columns}
use Rattle.code.specs.Search.{among}
use Rattle.code.specs.Words.{bit}
use Rattle.listings.specs.Lawful.{Patterns}
use Rattle.listings.specs.Listings.{run, burst}
use Rattle.listings.specs.Subject.{Ascending, RunFrom, RunWithin, ListsBurst}
use Rattle.listings.proofs.Choosing.{eighth}

-- ---- the listing by its places

pub burst_length : (n l : ℕ) → length (burst n l) ≡ n + 1 - l
burst_length n l = length-map-range_with_len (run l) 0 (n + 1 - l)

pub burst_at : (n l i : ℕ) → i + l ≤ n → get_or (burst n l) i 0 ≡ run l i
burst_at n l i h = get_or-map-range_with_len (run l) 0 (n + 1 - l) i i 0 (omega arith) (omega arith)

pub run_among : (n l i : ℕ) → i + l ≤ n → among (burst n l) (run l i) ≡ true
run_among n l i h = let e = burst_length n l in subst (λ x. among (burst n l) x ≡ true) (burst_at n l i h) (among_at (burst n l) i (omega arith))

-- a listed word is the run from some column on
pub run_of : (n l w : ℕ) → l ≤ n → among (burst n l) w ≡ true → (i : ℕ) × (i + l ≤ n) × (w ≡ run l i)
run_of n l w f h =
    let p = place_of (burst n l) w h in
    let e = burst_length n l in
    let fit : p.0 + l ≤ n = omega (arith, p.1) in
    (p.0, fit, sym p.2 ∙ burst_at n l p.0 fit)

-- ---- the bits of a run

-- a run that ends below column n
pub run_below : (n l i : ℕ) → i + l ≤ n → run l i < 2 ^ n
run_below n l i h =
    let p = pow_pos l in
    let s = shl_below (2 ^ l - 1) l i (omega arith) in
    let m = pow_mono {i = l + i} {j = n} (omega arith) in omega arith

pub run_some : (l i : ℕ) → 1 ≤ l → 1 ≤ run l i
run_some l i h =
    let p = pow_pos i in
    let m = pow_mono {i = 1} {j = l} h in
    let a = mul-le 1 1 (2 ^ l - 1) (2 ^ i) (omega arith) (omega arith) in omega arith

full_in : (l j : ℕ) → j < l → bit (2 ^ l - 1) j ≡ 1
full_in zero j h = absurd (omega arith)
full_in (suc l) zero h = let p = pow-suc 2 l in let q = pow_pos l in bit_first (2 ^ suc l - 1) ∙ (let e : (2 ^ suc l - 1) % 2 ≡ 1 = omega arith in e)
full_in (suc l) (suc j) h =
    let p = pow-suc 2 l in
    let q = pow_pos l in
    let e : (2 ^ suc l - 1) / 2 ≡ 2 ^ l - 1 = omega arith in
    bit_next (2 ^ suc l - 1) j ∙ (ap (λ x. bit x j) e ∙ full_in l j (omega arith))

bit_past : (n w j : ℕ) → w < 2 ^ n → n ≤ j → bit w j ≡ 0
bit_past n w j h l = let m = pow_mono {i = n} {j = j} l in ap (λ x. x % 2) (div-eq_of_lt (let g : w < 2 ^ j = omega arith in g))

twice : (x i : ℕ) → x * 2 ^ suc i ≡ x * 2 ^ i * 2
twice x i = ap (λ y. x * y) (pow-suc 2 i) ∙ sym (mul_assoc x (2 ^ i) 2)

shifted_next : (x i j : ℕ) → bit (x * 2 ^ suc i) (suc j) ≡ bit (x * 2 ^ i) j
shifted_next x i j =
    let s = twice x i in
    let e : x * 2 ^ suc i / 2 ≡ x * 2 ^ i = omega arith in
    bit_next (x * 2 ^ suc i) j ∙ ap (λ y. bit y j) e

shifted_low : (x i j : ℕ) → j < i → bit (x * 2 ^ i) j ≡ 0
shifted_low x zero j h = absurd (omega arith)
shifted_low x (suc i) zero h = let s = twice x i in bit_first (x * 2 ^ suc i) ∙ (let e : x * 2 ^ suc i % 2 ≡ 0 = omega arith in e)
shifted_low x (suc i) (suc j) h = shifted_next x i j ∙ shifted_low x i j (omega arith)

shifted_in : (l i j : ℕ) → i ≤ j → j < i + l → bit (run l i) j ≡ 1
shifted_in l zero j a b = ap (λ x. bit x j) (mul-one (2 ^ l - 1)) ∙ full_in l j (omega arith)
shifted_in l (suc i) zero a b = absurd (omega arith)
shifted_in l (suc i) (suc j) a b = shifted_next (2 ^ l - 1) i j ∙ shifted_in l i j (omega arith) (omega arith)

run_bits : (l i : ℕ) → RunFrom l i (run l i)
run_bits l i = (shifted_in l i, shifted_low (2 ^ l - 1) i, λ j h. bit_past (i + l) (run l i) j (run_below (i + l) l i (omega arith)) h)

-- ---- which words are listed

same_bit : (l i a b j : ℕ) → RunFrom l i a → RunFrom l i b → bit a j ≡ bit b j
same_bit l i a b j p q = elim (cases_lt j i) [
  | inl h ↦ p.1 j h ∙ sym (q.1 j h)
  | inr h ↦ elim (cases_lt j (i + l)) [ inl k ↦ p.0 j h k ∙ sym (q.0 j h k) | inr k ↦ p.2 j k ∙ sym (q.2 j k) ]
]

own_power : (w : ℕ) → w < 2 ^ w
own_power zero = omega arith
own_power (suc w) = let p = pow-suc 2 w in let h = own_power w in omega arith

pub run_is : (l i w : ℕ) → RunFrom l i w → w ≡ run l i
run_is l i w r =
    let m = w + (i + l) in
    let a = own_power w in
    let b = pow_mono {i = w} {j = w + (i + l)} (omega arith) in
    bits_same m w (run l i) (omega arith) (run_below m l i (omega arith)) (λ j h. same_bit l i w (run l i) j r (run_bits l i))

pub burst_only : (n l w : ℕ) → l ≤ n → among (burst n l) w ≡ true → RunWithin n l w
burst_only n l w f h = let k = run_of n l w f h in (k.0, k.1, subst (RunFrom l k.0) (sym k.2) (run_bits l k.0))

pub burst_every : (n l w : ℕ) → RunWithin n l w → among (burst n l) w ≡ true
burst_every n l w r = subst (λ x. among (burst n l) x ≡ true) (sym (run_is l r.0 w r.2)) (run_among n l r.0 r.1)

burst_rising : (n l : ℕ) → 1 ≤ l → l ≤ n → Ascending (burst n l)
burst_rising n l o f i j lt h =
    let e = burst_length n l in
    let a = burst_at n l i (omega arith) in
    let b = burst_at n l j (omega arith) in
    let p = pow_below i j lt in
    let s = run_some l 0 o in
    let m = mul-one (2 ^ l - 1) in
    let up : run l i < run l j = mul-lt-mul_of_pos_left p (let g : 0 < 2 ^ l - 1 = omega arith in g) in
    omega arith

-- the listing in the subject's own words
pub lists_burst : (n l : ℕ) → 1 ≤ l → l ≤ n → ListsBurst n l (burst n l)
lists_burst n l o f =
    ((λ w. (burst_only n l w f, burst_every n l w)), burst_rising n l o f, (let e = burst_length n l in let s : n + 1 - l ≡ n - l + 1 = omega arith in e ∙ s))

-- ---- a class

pub burst_each : (n l : ℕ) → 1 ≤ l → l ≤ n → Patterns n (burst n l)
burst_each n l o f p h =
    let k = run_of n l p f h in
    let a = run_some l k.0 o in
    let b = run_below n l k.0 k.1 in
    (omega (arith, k.2), omega (arith, k.2))

pub burst_few : (n l : ℕ) → n ≤ most_columns → length (burst n l) ≤ eighth
burst_few n l h = let e = burst_length n l in omega arith

-- ---- the test of a run: moved down to its lowest one, the word is l ones

odd_run : (l : ℕ) → 1 ≤ l → 2 ^ l - 1 ≡ (2 ^ (l - 1) - 1) * 2 + 1
odd_run zero h = absurd (omega arith)
odd_run (suc l) h =
    let e : suc l - 1 ≡ l = omega arith in
    let p = pow-suc 2 l in
    let q = pow_pos l in
    subst (λ x. 2 ^ suc l - 1 ≡ (2 ^ x - 1) * 2 + 1) (sym e) (let g : 2 ^ suc l - 1 ≡ (2 ^ l - 1) * 2 + 1 = omega arith in g)

-- a run below column n ends there
run_fits : (n l i : ℕ) → 1 ≤ l → run l i < 2 ^ n → i + l ≤ n
run_fits n l i h b =
    let o = odd_run l h in
    let p = pow_pos (l - 1) in
    let m = mul-le-mul_right (2 ^ i) (let g : 2 ^ (l - 1) ≤ 2 ^ l - 1 = omega arith in g) in
    let a = pow-add 2 (l - 1) i in
    let s = below_exponent (l - 1 + i) n (run l i) (omega arith) b in omega arith

trailing_is : (k i q : ℕ) → i < k → count_trailing_zeros k ((q * 2 + 1) * 2 ^ i) ≡ i
unfolding count_trailing_zeros
trailing_is zero i q h = absurd (omega arith)
trailing_is (suc k) zero q h =
    let w = (q * 2 + 1) * 2 ^ 0 in
    let o : w % 2 ≡ 1 = let m = mul-one (q * 2 + 1) in omega arith in
    ap (λ x. under x (count_trailing_zeros k (w / 2))) o
trailing_is (suc k) (suc i) q h =
    let w = (q * 2 + 1) * 2 ^ suc i in
    let s = twice (q * 2 + 1) i in
    let z : w % 2 ≡ 0 = omega arith in
    let d : w / 2 ≡ (q * 2 + 1) * 2 ^ i = omega arith in
    ap₂ (λ x y. under x (count_trailing_zeros k y)) z d ∙ ap suc (trailing_is k i q (omega arith))

-- the word w, of fewer than k bits, passes the test
abbrev pub Tested : ℕ → ℕ → ℕ → ℕ → Type 0
Tested k n l w = (0 < w) × (w < 2 ^ n) × (w / 2 ^ count_trailing_zeros k w ≡ 2 ^ l - 1)

pub run_found : (k n l w : ℕ) → 1 ≤ l → w < 2 ^ k → Tested k n l w → among (burst n l) w ≡ true
run_found k n l w h b t =
    let s = split_at k w t.0 b in
    let j = count_trailing_zeros k w in
    let d : w / 2 ^ j ≡ s.0 * 2 + 1 = ap (λ x. x / 2 ^ j) s.1 ∙ shl-shr (s.0 * 2 + 1) j in
    let is : w ≡ run l j = s.1 ∙ ap (λ x. x * 2 ^ j) (sym d ∙ t.2) in
    subst (λ x. among (burst n l) x ≡ true) (sym is) (run_among n l j (run_fits n l j h (subst (λ x. x < 2 ^ n) is t.1)))

pub run_tested : (k n l w : ℕ) → n ≤ k → 1 ≤ l → l ≤ n → among (burst n l) w ≡ true → Tested k n l w
run_tested k n l w m h f e =
    let r = run_of n l w f e in
    let i = r.0 in
    let a = run_some l r.0 h in
    let b = run_below n l r.0 r.1 in
    let t : count_trailing_zeros k w ≡ r.0
    = ap (count_trailing_zeros k) (r.2 ∙ ap (λ x. x * 2 ^ r.0) (odd_run l h)) ∙ trailing_is k r.0 (2 ^ (l - 1) - 1) (omega (arith, r.1)) in
    (omega (arith, r.2), omega (arith, r.2), ap₂ (λ x y. x / 2 ^ y) r.2 t ∙ shl-shr (2 ^ l - 1) r.0)
