use Rattle.std.proofs.Common.{◌≡◌, length, Some, sym, ap, subst, ◌∙◌, arith}
use Rattle.std.specs.Int.Bits.{xor_lt}
use Rattle.code.specs.Codes.{syndrome}
use Rattle.code.specs.Meaning.{columns_of, data_of}
use Rattle.code.proofs.Values.{every_code}
use Rattle.listings.specs.Lawful.{Patterns}
use Rattle.judge.specs.Decoding.{Decodes, taken}
use Rattle.judge.specs.declared.decoded.Decoded.TheVariants.{Data}
use Rattle.judge.proofs.Decodings.{data_decodes, decodes_encoded, patterns_fit, taken_below, taken_none_before, within_ok}
use Rattle.judge.proofs.decoder.decode.Goals as goal

pub returns-then-width-column_count-clause-back : goal.returns-then-width-column_count-clause-back
returns-then-width-column_count-clause-back g c = let code = c.args.code.now in decodes_encoded (columns_of code) (data_of code) _ (every_code code)

pub returns-in_err-syndrome-clause-back : goal.returns-in_err-syndrome-clause-back
returns-in_err-syndrome-clause-back g c = let code = c.args.code.now in decodes_encoded (columns_of code) (data_of code) _ (every_code code)

pub data_bits_of-requires : goal.data_bits_of-requires
data_bits_of-requires g c =
    let cs = columns_of c.args.code.now in
    let ps = g.C.ErrorClass.patterns c.args.class.now in
    let each : Patterns (length cs) ps = patterns_fit _ (length cs) ps (g.C.ErrorClass.lawful c.args.class.now) (omega arith) in
    let word = within_ok (length cs) c.args.word (syndrome cs c.args.word) c.in_ok-syndrome.syndrome c.in_ok-syndrome.ensures.value in
    xor_lt (length cs) c.args.word c.in-Some.pattern word.0 (taken_below (length cs) cs ps c.in_ok-syndrome.syndrome c.in-Some.pattern each (sym c.taken_for.ensures ∙ c.in-Some.is))

pub returns-in-Some-clause-tells : goal.returns-in-Some-clause-tells
returns-in-Some-clause-tells g c =
    let cs = columns_of c.args.code.now in
    let ds = data_of c.args.code.now in
    let ps = g.C.ErrorClass.patterns c.args.class.now in
    let each : Patterns (length cs) ps = patterns_fit _ (length cs) ps (g.C.ErrorClass.lawful c.args.class.now) (omega arith) in
    let word = within_ok (length cs) c.args.word (syndrome cs c.args.word) c.in_ok-syndrome.syndrome c.in_ok-syndrome.ensures.value in
    let found : taken cs ps (syndrome cs c.args.word) ≡ Some c.in-Some.pattern = ap (taken cs ps) (sym word.1) ∙ (sym c.taken_for.ensures ∙ c.in-Some.is) in
    subst (λ d. Decodes cs ds ps c.args.word (Data d c.in-Some.pattern)) (sym c.data_bits_of.ensures)
    (data_decodes cs ds ps (every_code c.args.code.now) c.args.word c.in-Some.pattern each word.0 found)

pub returns-in-Some-clause-back : goal.returns-in-Some-clause-back
returns-in-Some-clause-back g c = let code = c.args.code.now in decodes_encoded (columns_of code) (data_of code) _ (every_code code)

pub returns-in-None-clause-tells : goal.returns-in-None-clause-tells
returns-in-None-clause-tells g c =
    let cs = columns_of c.args.code.now in
    let ps = g.C.ErrorClass.patterns c.args.class.now in
    let word = within_ok (length cs) c.args.word (syndrome cs c.args.word) c.in_ok-syndrome.syndrome c.in_ok-syndrome.ensures.value in
    taken_none_before cs ps c.args.word (ap (taken cs ps) (sym word.1) ∙ (sym c.taken_for.ensures ∙ c.in-None.is))

pub returns-in-None-clause-back : goal.returns-in-None-clause-back
returns-in-None-clause-back g c = let code = c.args.code.now in decodes_encoded (columns_of code) (data_of code) _ (every_code code)
