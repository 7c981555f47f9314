use Rattle.std.proofs.Common.{◌≤◌, ◌^◌, arith}
use Rattle.std.proofs.Math.Pow.{pow_mono}
use Rattle.code.specs.Codes.{rows}
use Rattle.code.specs.Meaning.{columns_of, data_of}
use Rattle.code.proofs.Codewords.{syndromes_fit}
use Rattle.code.proofs.Values.{every_code}
use Rattle.judge.proofs.table.enter.Goals as goal

pub bounds-table-s : goal.bounds-table-s
bounds-table-s c =
    let code = c.args.code.now in
    let fits = syndromes_fit (columns_of code) (data_of code) (every_code code) c.args.pattern in
    omega arith

pub offset_bounds-table-s : goal.offset_bounds-table-s
offset_bounds-table-s c =
    let code = c.args.code.now in
    let fits = syndromes_fit (columns_of code) (data_of code) (every_code code) c.args.pattern in
    let few : 2 ^ rows (columns_of code) (data_of code) ≤ 2 ^ 16 = pow_mono code.laid.shape.4 in
    omega arith
