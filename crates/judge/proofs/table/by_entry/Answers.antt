use Rattle.std.proofs.Common.{◌≡◌, ◌%◌, ◌^◌, ◌<◌, length, subst, sym, arith, mod-lt, pow_pos}
use Rattle.std.specs.Int.Bits.{xor_lt}
use Rattle.code.specs.Meaning.{columns_of}
use Rattle.judge.proofs.table.by_entry.Goals as goal

pub data_bits_of-requires : goal.data_bits_of-requires
data_bits_of-requires c =
    let n = length (columns_of c.args.code.now) in
    let wide = c.args.code.now.laid.shape.1 in
    let power : c.weight.result ≡ 2 ^ c.column_count.result = c.weight.ensures.power (omega arith) in
    let same : 2 ^ n ≡ c.weight.result = subst (λ x. 2 ^ x ≡ c.weight.result) c.column_count.ensures (sym power) in
    xor_lt n c.args.word (c.args.entry % c.weight.result) c.requires (subst (λ x. c.args.entry % x < 2 ^ n) same (mod-lt c.args.entry (pow_pos n)))
