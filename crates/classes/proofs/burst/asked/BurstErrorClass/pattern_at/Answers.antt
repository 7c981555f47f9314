use Rattle.std.proofs.Common.{◌≡◌, ◌+◌, ◌-◌, ◌*◌, ◌%◌, ◌^◌, ◌<◌, ◌≤◌, sym, ap, ◌∙◌, mod-eq_of_lt, arith, pow_mono}
use Rattle.listings.specs.Listings.{burst, run}
use Rattle.listings.proofs.BurstRuns.{burst_length, burst_at, run_below}
use Rattle.listings.proofs.Members.{at_in}
use Rattle.listings.specs.Limits.{least_run, most_run}
use Rattle.listings.proofs.MixedItems.{sized}
use Rattle.classes.proofs.burst.asked.BurstErrorClass.pattern_at.Goals as goal

pub overflow_shl-result : goal.overflow_shl-result
overflow_shl-result c = let s = c.args.self.now in omega (arith, burst_length s.width.columns s.size, sized least_run most_run s.width.columns s.size s.good)

pub returns-then-i-count : goal.returns-then-i-count
returns-then-i-count c =
    let n = c.args.self.now.width.columns in
    let l = c.args.self.now.size in
    let i = c.args.i in
    let r = sized least_run most_run n l c.args.self.now.good in
    let len = burst_length n l in
    let fit : i + l ≤ n = omega arith in
    let b = run_below n l i fit in
    let m = pow_mono {i = n} {j = 64} (omega arith) in
    let e : (c.weight.result - 1) * 2 ^ i ≡ run l i = ap (λ x. (x - 1) * 2 ^ i) (c.weight.ensures.power (omega arith)) in
    at_in (burst n l) i _ (omega arith) (ap (λ x. x % 2 ^ 64) e ∙ (mod-eq_of_lt (let g : run l i < 2 ^ 64 = omega arith in g) ∙ sym (burst_at n l i fit)))
