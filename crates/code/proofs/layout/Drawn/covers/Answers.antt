use Rattle.std.proofs.Common.{◌≡◌, ℕ, true, false, ◌||◌, List, length, rules, refl}
use borrow.Author.Tests.{tests}
use native.Mathlib.Nat.{sub-zero}
use Rattle.std.proofs.lemmas.Iterator.{YieldsList-from_range, cases_from_all}
use Rattle.code.specs.Search.{among}
use Rattle.code.proofs.Looking.{covered_by}
use Rattle.code.proofs.layout.Drawn.covers.Goals as goal

pub returns : goal.returns
returns c =
    let cs : List ℕ = c.args.self.now.values.now in
    let ds : List ℕ = c.args.self.now.numbers.now in
    let us : List ℕ = c.args.checks.now in
    let answer =
    covered_by cs ds us c.all.result (
    cases_from_all _ _ c.all.result (λ j. (among ds j || among us j) ≡ true) (λ j. (among ds j || among us j) ≡ false) c.all.ensures.ran
    (YieldsList-from_range 0 (length cs) (length cs) refl (sub-zero (length cs))) (λ x q k. search (rules, tests)) (λ x q k. search (rules, tests))
    ) in
    record { yes = answer.0; no = answer.1 }
