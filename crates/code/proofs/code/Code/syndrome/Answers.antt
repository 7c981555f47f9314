use Rattle.code.specs.Meaning.{columns_of, data_of}
use Rattle.code.proofs.Codewords.{linear, syndromes_fit}
use Rattle.code.proofs.Values.{every_code}
use Rattle.code.proofs.code.Code.syndrome.Goals as goal

pub returns-in_err-fits-clause-linear : goal.returns-in_err-fits-clause-linear
returns-in_err-fits-clause-linear c = linear (columns_of c.args.self.now)

pub returns-in_err-fits-clause-fits : goal.returns-in_err-fits-clause-fits
returns-in_err-fits-clause-fits c = let self = c.args.self.now in syndromes_fit (columns_of self) (data_of self) (every_code self)

pub returns-clause-linear : goal.returns-clause-linear
returns-clause-linear c = linear (columns_of c.args.self.now)

pub returns-clause-fits : goal.returns-clause-fits
returns-clause-fits c = let self = c.args.self.now in syndromes_fit (columns_of self) (data_of self) (every_code self)
