use Rattle.std.proofs.Common.{◌≡◌, ℕ, suc, ◌+◌, ◌*◌, ◌^◌, ◌<◌, ◌≤◌, length, decimal, Some, None, Option, IfSome, IfNone, sym, arith, ap, ◌∙◌, inl, inr}
use Rattle.std.specs.Option.{unwrap_or}
use Rattle.std.proofs.Math.Nat.{pow-suc, pow-le-pow_right}
use Rattle.std.proofs.lemmas.Fmt.{decimal_digit, decimal_is_IsNumeral, length-decimal-le}
use Rattle.std.proofs.lemmas.Int.Digits.{digits_value-lt}
use Rattle.std.proofs.lemmas.Bool.{cases_lt}
use Rattle.picture.proofs.table.digit_count.Goals as goal

-- a number from 10 ^ k on, and below the next power, has k + 1 digits
digits_of_log : (n k : ℕ) → n < 2 ^ 64 → 10 ^ k ≤ n → n < 10 * 10 ^ k → length (decimal n) ≡ k + 1
digits_of_log n k fits low high =
    let up : 10 ^ suc k ≡ 10 ^ k * 10 = pow-suc 10 k in
    let most : length (decimal n) ≤ suc k = length-decimal-le (suc k) n (omega arith) (omega arith) fits in
    let q = decimal_is_IsNumeral n fits in
    let value = digits_value-lt 10 (decimal n) q.0.1 in
    let below : n < 10 ^ length (decimal n) = omega (arith, value, q.1) in
    elim (cases_lt k (length (decimal n))) [
      | inl l ↦ omega arith
      | inr g ↦ (let p : 10 ^ length (decimal n) ≤ 10 ^ k = pow-le-pow_right {n = 10} (omega arith) g in absurd (omega arith))
    ]

none_or_log : (n : ℕ) (o : Option ℕ) → n < 2 ^ 64 → IfNone o (n ≡ 0) → IfSome o (λ k. 10 ^ k ≤ n) → IfSome o (λ k. n < 10 * 10 ^ k) → unwrap_or o 0 + 1 ≡ length (decimal n)
none_or_log n None fits zero low high = ap length (sym (decimal_digit 0 (omega arith))) ∙ ap (λ m. length (decimal m)) (sym zero)
none_or_log n (Some k) fits zero low high = sym (digits_of_log n k fits low high)

pub returns : goal.returns
returns c = let o = c.checked_ilog10.ensures in
    ap (λ k. k + 1) c.unwrap_or.ensures ∙ none_or_log c.args.number c.checked_ilog10.result (omega arith) o.none o.power_le o.next_power_gt
