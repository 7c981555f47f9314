use Rattle.std.proofs.Common.{sym, ◌∙◌, arith}
use Rattle.code.specs.Meaning.{columns_of}
use Rattle.judge.proofs.Decodings.{front_fits, taken_here, taken_nowhere}
use Rattle.judge.proofs.decoder.taken_for.Goals as goal

pub syndrome_of-requires : goal.syndrome_of-requires
syndrome_of-requires g c =
    front_fits _ _ (g.C.ErrorClass.patterns c.args.class.now) c.loop-place.place _ (g.C.ErrorClass.lawful c.args.class.now) c.requires (omega arith) c.front_pattern-pattern.ensures

pub returns-then-syndrome_of-syndrome : goal.returns-then-syndrome_of-syndrome
returns-then-syndrome_of-syndrome g c =
    taken_here (columns_of c.args.code.now) (g.C.ErrorClass.patterns c.args.class.now) c.args.syndrome c.loop-place.place c.front_pattern-pattern.result (omega arith) c.loop-place.invariant c.front_pattern-pattern.ensures
    (sym c.syndrome_of.ensures ∙ c.if-syndrome_of-syndrome.true)

pub returns : goal.returns
returns g c =
    taken_nowhere (columns_of c.args.code.now) (g.C.ErrorClass.patterns c.args.class.now) c.args.syndrome c.loop-place.place (omega arith) c.loop-place.invariant
