use Rattle.std.proofs.Common.{◌∙◌}
use Rattle.code.proofs.Values.{checks_computed}
use Rattle.code.proofs.code.Code.check_columns.Goals as goal

pub returns : goal.returns
returns c = c.as_slice.ensures.value ∙ checks_computed c.args.self.now
