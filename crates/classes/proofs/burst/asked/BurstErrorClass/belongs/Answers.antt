use Rattle.std.proofs.Common.{◌≡◌, ◌-◌, ◌/◌, ◌^◌, false, eqb, sym, ap, ◌∙◌, arith}
use lib.Count.{count_trailing_zeros}
use Rattle.code.specs.Search.{among}
use Rattle.listings.specs.Listings.{burst}
use Rattle.listings.proofs.BurstRuns.{run_found, run_tested}
use Rattle.listings.specs.Limits.{least_run, most_run}
use Rattle.listings.proofs.MixedItems.{sized}
use Rattle.std.proofs.lemmas.Bool.{eqb-true, eq-eqb, false≢true}
use Rattle.std.proofs.lemmas.Bool.Decides.{same_from_decides}
use Rattle.classes.proofs.burst.asked.BurstErrorClass.belongs.Goals as goal

-- 0 and a mask of 2^n or more are no run
pub returns-then-mask-eq0 : goal.returns-then-mask-eq0
returns-then-mask-eq0 c =
    let n = c.args.self.now.width.columns in
    let l = c.args.self.now.size in
    let m = c.args.mask in
    let r = sized least_run most_run n l c.args.self.now.good in
    same_from_decides false (among (burst n l) m)
    ((λ e. absurd (false≢true e)), (λ t. absurd (omega (arith, t.0, t.1))))
    (run_tested 64 n l m (omega arith) (omega arith) (omega arith), run_found 64 n l m (omega arith) (omega arith))

pub returns : goal.returns
returns c =
    let n = c.args.self.now.width.columns in
    let l = c.args.self.now.size in
    let m = c.args.mask in
    let r = sized least_run most_run n l c.args.self.now.good in
    let low = m / 2 ^ count_trailing_zeros 64 m in
    let full : c.weight.result - 1 ≡ 2 ^ l - 1 = ap (λ x. x - 1) (c.weight.ensures.power (omega arith)) in
    same_from_decides (eqb low (c.weight.result - 1)) (among (burst n l) m)
    ((λ e. (omega arith, omega arith, eqb-true low (c.weight.result - 1) e ∙ full)), (λ t. eq-eqb low (c.weight.result - 1) (t.2 ∙ sym full)))
    (run_tested 64 n l m (omega arith) (omega arith) (omega arith), run_found 64 n l m (omega arith) (omega arith))
