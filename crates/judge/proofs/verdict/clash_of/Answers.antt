use Rattle.std.proofs.Common.{length}
use Rattle.std.specs.Int.Bits.{xor_lt}
use Rattle.code.specs.Meaning.{columns_of}
use Rattle.judge.proofs.verdict.clash_of.Goals as goal

pub data_bits_of-requires : goal.data_bits_of-requires
data_bits_of-requires g c = xor_lt (length (columns_of c.args.code.now)) c.args.rivals.earlier c.args.rivals.later c.requires.earlier c.requires.later
