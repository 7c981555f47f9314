use Rattle.std.proofs.Common.{ℕ, ◌%◌, ◌^◌, ◌<◌, ◌≤◌, sym, ap, arith, pow_mono}
use native.Mathlib.Nat.{div-eq_of_lt}
use Rattle.picture.proofs.bits.bit_of.Goals as goal

pub returns-else-i-lt64 : goal.returns-else-i-lt64
returns-else-i-lt64 c =
    let small : 2 ^ 64 ≤ 2 ^ c.args.i = pow_mono c.if-i-lt64.false in
    let below : c.args.value < 2 ^ c.args.i = omega (arith, small) in
    sym (ap (λ (x : ℕ). x % 2) (div-eq_of_lt below))
