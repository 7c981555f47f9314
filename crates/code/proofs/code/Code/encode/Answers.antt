use Rattle.std.proofs.Common.{ap, ◌∙◌}
use Rattle.code.specs.Words.{combine, place}
use Rattle.code.specs.Meaning.{columns_of, data_of}
use Rattle.code.proofs.Codewords.{one_codeword}
use Rattle.code.proofs.Values.{every_code, places, checks_inside, carried_below, syndrome_below}
use Rattle.code.proofs.code.Code.encode.Goals as goal

pub returns-in_err-fits-clause-one : goal.returns-in_err-fits-clause-one
returns-in_err-fits-clause-one c = let self = c.args.self.now in one_codeword (columns_of self) (data_of self) (every_code self)

pub combined-syndrome-requires : goal.combined-syndrome-requires
combined-syndrome-requires c =
    carried_below c.args.self.now _ c.args.word c.placed-carried.result c.column_values.ensures.value
    (c.placed-carried.ensures ∙ ap (λ xs. place xs c.args.word) c.data_columns.ensures)

pub placed-requires-clause-fit : goal.placed-requires-clause-fit
placed-requires-clause-fit c =
    syndrome_below c.args.self.now _ c.placed-carried.result c.combined-syndrome.result c.check_columns.ensures
    (c.combined-syndrome.ensures ∙ ap (λ xs. combine xs c.placed-carried.result) c.column_values.ensures.value)

pub placed-requires-clause-inside : goal.placed-requires-clause-inside
placed-requires-clause-inside c = let self = c.args.self.now in places self _ _ c.check_columns.ensures (checks_inside self)

pub returns-clause-one : goal.returns-clause-one
returns-clause-one c = let self = c.args.self.now in one_codeword (columns_of self) (data_of self) (every_code self)
