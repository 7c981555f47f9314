use Rattle.std.proofs.Common.{◌≡◌, ◌<◌, ◌*◌, ◌^◌, ◌%◌, arith}
use lib.Pow.{pow-lt}
use Rattle.std.proofs.iter.Serving.{serving}
use Rattle.std.proofs.lemmas.Grind.{get_or_default_zero}
use Rattle.std.proofs.lemmas.Nat.{one_shl}
use Rattle.script.proofs.drawing.stack.Goals as goal

-- no sum is too wide: each value is below 2^i, which is the weight of row i
pub collect-requires-clause-can : goal.collect-requires-clause-can
collect-requires-clause-can c =
    let few : 2 ^ c.args.i < 2 ^ 63 = pow-lt c.requires.room in
    let weight : (1 * 2 ^ c.args.i) % 2 ^ 64 ≡ 2 ^ c.args.i = one_shl c.args.i 64 (omega arith) in
    let low = c.requires.low in
    grind (serving, few, weight, low, get_or_default_zero)
