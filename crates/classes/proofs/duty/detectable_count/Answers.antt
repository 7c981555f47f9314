use Rattle.classes.proofs.Detecting.{detects}
use Rattle.classes.proofs.duty.detectable_count.Goals as goal

pub returns-clause-detects : goal.returns-clause-detects
returns-clause-detects g c =
    detects (g.D.ErrorClass.wide c.args.second.now) (g.C.ErrorClass.patterns c.args.first.now) (g.D.ErrorClass.patterns c.args.second.now) (g.D.ErrorClass.lawful c.args.second.now)
