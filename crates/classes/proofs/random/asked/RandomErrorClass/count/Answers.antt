use Rattle.std.proofs.Common.{sym, ap, ◌∙◌}
use Rattle.listings.specs.Listings.{choose}
use Rattle.listings.proofs.RandomWords.{random_length}
use Rattle.classes.proofs.random.asked.RandomErrorClass.count.Goals as goal

pub returns : goal.returns
returns c = let s = c.args.self.now in c.binomial.ensures ∙ (ap (λ n. choose n s.ones) c.columns.ensures.value ∙ sym (random_length s.width.columns s.ones))
