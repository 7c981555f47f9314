use Rattle.std.proofs.Common.{ℕ, List, length, decimal, unwrap_or, ap, ◌∙◌, rules}
use Rattle.std.proofs.lemmas.Iterator.{YieldsList-from_slice, YieldsList-from_map}
use Rattle.std.proofs.lemmas.Iterator.Consumers.{reduce_from_yields_List}
use Rattle.std.proofs.lemmas.List.Folds.{max_of_map}
use Rattle.picture.proofs.table.widest_of.Goals as goal

pub returns : goal.returns
returns c =
    let ns : List ℕ = c.args.numbers.now in
    let digits : ℕ → ℕ = λ n. length (decimal n) in
    c.unwrap_or.ensures ∙ ap (λ o. unwrap_or o 0) (reduce_from_yields_List _ c.map.result _ c.max.ensures.ran (YieldsList-from_map _ digits (YieldsList-from_slice ns cc) c.map.ensures.closure (λ x b q k. search rules))) ∙ max_of_map digits ns
