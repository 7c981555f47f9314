use Rattle.std.proofs.Common.{sym, ◌∙◌, subst, arith}
use Rattle.listings.specs.Listings.{burst}
use Rattle.listings.specs.Subject.{ListsBurst}
use Rattle.listings.proofs.BurstRuns.{lists_burst}
use Rattle.listings.specs.Limits.{least_run, most_run}
use Rattle.listings.proofs.MixedItems.{sized}
use Rattle.classes.proofs.burst.Burst.open.Goals as goal

pub returns-clause-lists : goal.returns-clause-lists
returns-clause-lists c =
    let n = c.in_ok-width.width.columns in
    let l = c.args.size in
    let r = sized least_run most_run n l (sym c.takes_run.ensures ∙ c.if-not-takes_run.false) in
    subst (λ m. ListsBurst m l (burst n l)) c.in_ok-width.ensures.1 (lists_burst n l (omega arith) r.fit)
