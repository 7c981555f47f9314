use Rattle.std.proofs.Common.{◌≡◌, ◌+◌, ◌-◌, ◌*◌, ◌/◌, sym, ap, ◌∙◌, arith}
use Rattle.listings.specs.Listings.{choose}
use Rattle.listings.proofs.Choosing.{choose_one, choose_two, choose_three}
use Rattle.classes.proofs.random.rank.binomial.Goals as goal

pub overflow_sub-result : goal.overflow_sub-result
overflow_sub-result c = omega (arith, choose_two c.args.n)

pub overflow_sub-result-in_default : goal.overflow_sub-result-in_default
overflow_sub-result-in_default c = omega (arith, choose_three c.args.n)

pub returns-in-1 : goal.returns-in-1
returns-in-1 c = sym (choose_one c.args.n) ∙ ap (choose c.args.n) (sym c.in-1.is)

pub returns-in-2 : goal.returns-in-2
returns-in-2 c =
    let n = c.args.n in
    let e : (n * n - n) / 2 ≡ choose n 2 = omega (arith, choose_two c.args.n) in e ∙ ap (choose n) (sym c.in-2.is)

pub returns-in_default : goal.returns-in_default
returns-in_default c =
    let n = c.args.n in
    let three : c.args.t ≡ 3 = omega arith in
    let e : (n * n * n + 2 * n - 3 * (n * n)) / 6 ≡ choose n 3 = omega (arith, choose_three c.args.n) in
    e ∙ ap (choose n) (sym three)
