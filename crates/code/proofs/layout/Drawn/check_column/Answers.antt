use Rattle.std.proofs.Common.{ℕ, List, rules}
use borrow.Author.Tests.{tests}
use Rattle.std.proofs.lemmas.Iterator.{YieldsList-from_slice, IsFirst-from_position}
use Rattle.std.proofs.lemmas.Iterator.Consumers.{YieldsList-from_enumerate}
use Rattle.code.proofs.Looking.{Hit, Miss, first_check}
use Rattle.code.proofs.layout.Drawn.check_column.Goals as goal

pub returns : goal.returns
returns c =
    let cs : List ℕ = c.args.self.now.values.now in
    let ds : List ℕ = c.args.self.now.numbers.now in
    let v : ℕ = c.args.value in
    first_check cs ds v c.position.result (
    IsFirst-from_position _ _ c.position.result (Hit cs ds v) (Miss cs ds v) c.position.ensures.ran
    (YieldsList-from_enumerate (YieldsList-from_slice cs cc) (cc)) (λ x q k. search (rules, tests)) (λ x q k. search (rules, tests))
    )
