use Rattle.std.proofs.Common.{ap, ◌∙◌, rules}
use Rattle.std.proofs.lemmas.List.{map-id}
use Rattle.code.specs.Words.{combine}
use Rattle.code.proofs.words.combined.Goals as goal

pub returns : goal.returns
returns c = c.xor_of_ones.ensures (λ v. v) (λ v r k. search rules) ∙ ap (λ vs. combine vs c.args.word) (map-id c.args.values.now)
