use Rattle.std.proofs.Common.{sym, ◌∙◌, subst}
use Rattle.listings.specs.Listings.{random}
use Rattle.listings.specs.Subject.{ListsRandom}
use Rattle.listings.proofs.RandomWords.{lists_random}
use Rattle.listings.specs.Limits.{most_ones}
use Rattle.listings.proofs.MixedItems.{sized}
use Rattle.classes.proofs.random.Random.open.Goals as goal

pub returns-clause-lists : goal.returns-clause-lists
returns-clause-lists c =
    let n = c.in_ok-width.width.columns in
    let t = c.args.ones in
    let o = sized 1 most_ones n t (sym c.takes_ones.ensures ∙ c.if-not-takes_ones.false) in
    subst (λ m. ListsRandom m t (random n t)) c.in_ok-width.ensures.1 (lists_random n t o.fit)
