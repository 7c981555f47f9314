use Rattle.std.proofs.Common.{◌≡◌, ℕ, List, drop, ap, ◌∙◌}
use Rattle.std.proofs.lemmas.Iterator.{YieldsList-from_take, items_from_collect}
use Rattle.std.proofs.lemmas.Iterator.Consumers.{YieldsList-from_first}
use Rattle.design.proofs.list.first_patterns.Goals as goal

pub returns : goal.returns
returns g c =
    let all : List ℕ = g.C.ErrorClass.patterns c.args.class.now in
    let at_first : drop c.take.result.iter.next (g.C.ErrorClass.patterns c.take.result.iter.class.now) ≡ all
    = ap (λ i. drop i (g.C.ErrorClass.patterns c.take.result.iter.class.now)) (ap (λ s. s.next) c.take.ensures.source ∙ c.patterns_of.ensures.first)
    ∙ ap (λ x. g.C.ErrorClass.patterns x) (ap (λ s. s.class.now) c.take.ensures.source ∙ c.patterns_of.ensures.class) in
    items_from_collect _ c.collect.ensures.ran (YieldsList-from_take c.args.limit (YieldsList-from_first (λ x. x) (λ s. drop s.next (g.C.ErrorClass.patterns s.class.now)) all at_first) cc)
