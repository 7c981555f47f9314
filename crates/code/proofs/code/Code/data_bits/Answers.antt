use Rattle.code.specs.Meaning.{columns_of, data_of}
use Rattle.code.proofs.Codewords.{one_data_word, reads_back}
use Rattle.code.proofs.Values.{every_code}
use Rattle.code.proofs.code.Code.data_bits.Goals as goal

pub returns-in_err-fits-clause-one : goal.returns-in_err-fits-clause-one
returns-in_err-fits-clause-one c = let self = c.args.self.now in one_data_word (columns_of self) (data_of self) (every_code self)

pub returns-in_err-fits-clause-back : goal.returns-in_err-fits-clause-back
returns-in_err-fits-clause-back c = let self = c.args.self.now in reads_back (columns_of self) (data_of self) (every_code self)

pub returns-clause-one : goal.returns-clause-one
returns-clause-one c = let self = c.args.self.now in one_data_word (columns_of self) (data_of self) (every_code self)

pub returns-clause-back : goal.returns-clause-back
returns-clause-back c = let self = c.args.self.now in reads_back (columns_of self) (data_of self) (every_code self)
