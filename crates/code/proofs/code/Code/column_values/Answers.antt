use Rattle.code.proofs.Values.{every_code}
use Rattle.code.proofs.code.Code.column_values.Goals as goal

pub returns-clause-wellformed : goal.returns-clause-wellformed
returns-clause-wellformed c = every_code c.args.self.now
