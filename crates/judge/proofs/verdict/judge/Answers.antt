use Rattle.std.proofs.Common.{Ok, Err, arith}
use Rattle.code.specs.Meaning.{columns_of, data_of}
use Rattle.code.proofs.Values.{every_code}
use Rattle.judge.proofs.Verdicts.{Rightly, accepts, later_below, refuses_with}
use Rattle.judge.proofs.verdict.judge.Given.{Over}
use Rattle.judge.proofs.verdict.judge.Goals as goal
use Rattle.judge.proofs.verdict.judge.Goals.{After-clash_of, In-Ok}

-- what is promised where the search finds no clash
accepted : (g : Over) → (c : In-Ok g)
    → Rightly (columns_of c.args.code.now) (data_of c.args.code.now) (g.C.ErrorClass.wide c.args.first.now) (g.C.ErrorClass.patterns c.args.first.now) (g.D.ErrorClass.wide c.args.second.now) (g.D.ErrorClass.patterns c.args.second.now) (Ok c.in-Ok.places)
accepted g c =
    accepts (columns_of c.args.code.now) (data_of c.args.code.now) (every_code c.args.code.now) (g.C.ErrorClass.wide c.args.first.now) (g.C.ErrorClass.patterns c.args.first.now) (g.D.ErrorClass.wide c.args.second.now) (g.D.ErrorClass.patterns c.args.second.now)
    (g.C.ErrorClass.lawful c.args.first.now) (g.D.ErrorClass.lawful c.args.second.now) (omega arith, omega arith) c.in-Ok.places c.in-Ok.ensures

-- and where it finds one
refused : (g : Over) → (c : After-clash_of g)
    → Rightly (columns_of c.args.code.now) (data_of c.args.code.now) (g.C.ErrorClass.wide c.args.first.now) (g.C.ErrorClass.patterns c.args.first.now) (g.D.ErrorClass.wide c.args.second.now) (g.D.ErrorClass.patterns c.args.second.now) (Err c.clash_of.result)
refused g c =
    refuses_with (columns_of c.args.code.now) (data_of c.args.code.now) (every_code c.args.code.now) (g.C.ErrorClass.wide c.args.first.now) (g.C.ErrorClass.patterns c.args.first.now) (g.D.ErrorClass.wide c.args.second.now) (g.D.ErrorClass.patterns c.args.second.now)
    (g.C.ErrorClass.lawful c.args.first.now) (g.D.ErrorClass.lawful c.args.second.now) (omega arith, omega arith) c.in-Err.rivals.earlier c.in-Err.rivals.later c.clash_of.result c.in-Err.ensures c.clash_of.ensures

pub clash_of-requires-clause-later : goal.clash_of-requires-clause-later
clash_of-requires-clause-later g c =
    later_below (columns_of c.args.code.now) (data_of c.args.code.now) (every_code c.args.code.now) (g.C.ErrorClass.wide c.args.first.now) (g.C.ErrorClass.patterns c.args.first.now) (g.D.ErrorClass.wide c.args.second.now) (g.D.ErrorClass.patterns c.args.second.now)
    (g.C.ErrorClass.lawful c.args.first.now) (g.D.ErrorClass.lawful c.args.second.now) (omega arith, omega arith) c.in-Err.rivals.earlier c.in-Err.rivals.later c.in-Err.ensures

pub returns-in-Ok-clause-value : goal.returns-in-Ok-clause-value
returns-in-Ok-clause-value g c = (accepted g c).value

pub returns-in-Ok-clause-judged : goal.returns-in-Ok-clause-judged
returns-in-Ok-clause-judged g c = (accepted g c).judged

pub returns-in-Ok-clause-exact : goal.returns-in-Ok-clause-exact
returns-in-Ok-clause-exact g c = (accepted g c).exact

pub returns-in-Err-clause-value : goal.returns-in-Err-clause-value
returns-in-Err-clause-value g c = (refused g c).value

pub returns-in-Err-clause-judged : goal.returns-in-Err-clause-judged
returns-in-Err-clause-judged g c = (refused g c).judged

pub returns-in-Err-clause-exact : goal.returns-in-Err-clause-exact
returns-in-Err-clause-exact g c = (refused g c).exact
