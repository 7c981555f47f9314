use Rattle.std.proofs.Common.{◌<◌, ◌^◌, length, ap, sym, subst, ◌∙◌, Ok, arith}
use Rattle.code.specs.Codes.{rows, syndrome}
use Rattle.code.specs.Meaning.{columns_of, data_of}
use Rattle.code.proofs.Codewords.{syndromes_fit}
use Rattle.code.proofs.Values.{every_code}
use Rattle.judge.proofs.Decodings.{decoding_is, patterns_fit, within_ok}
use Rattle.judge.proofs.Tables.{filled_room, table_says}
use Rattle.judge.proofs.table.decode_by_table.Goals as goal

pub returns-then-table-entry_count-clause-agrees : goal.returns-then-table-entry_count-clause-agrees
returns-then-table-entry_count-clause-agrees c = λ m ps law same filled.
    absurd (let room = filled_room (columns_of c.args.code.now) (data_of c.args.code.now) ps c.args.table.now filled in omega arith)

pub returns-clause-agrees : goal.returns-clause-agrees
returns-clause-agrees c = λ m ps law same filled.
    let code = c.args.code.now in
    let cs = columns_of code in
    let ds = data_of code in
    let word = within_ok (length cs) c.args.word (syndrome cs c.args.word) c.in_ok-syndrome.syndrome c.in_ok-syndrome.ensures.value in
    let below : c.in_ok-syndrome.syndrome < 2 ^ rows cs ds = subst (λ s. s < 2 ^ rows cs ds) (sym word.1) (syndromes_fit cs ds (every_code code) c.args.word) in
    ap Ok (c.by_entry.ensures ∙ table_says cs ds ps c.args.table.now c.args.word c.in_ok-syndrome.syndrome code.laid.shape.1 (patterns_fit m (length cs) ps law same) filled below word.1)
    ∙ decoding_is cs ds ps m c.args.word same word.0
