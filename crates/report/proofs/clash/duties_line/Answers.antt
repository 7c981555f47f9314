use Rattle.std.proofs.Common.{◌≡◌, ℕ, List, ◌++◌, IfOk, string_bytes, codes, ap, ◌∙◌, subst, rules}
use Rattle.code.specs.Meaning.{columns_of, data_of}
use Rattle.report.specs.Clashes.{earlier_duty}
use Rattle.report.specs.Syndrome.{syndrome_drawn}
use Rattle.report.proofs.clash.duties_line.Goals as goal

pub returns : goal.returns
returns c =
    let line : List ℕ → List ℕ → List ℕ = λ earlier syndrome. codes "p is " ++ (earlier ++ (codes ", q is to be " ++ (c.args.duty.now ++ (codes ", and both have the syndrome " ++ syndrome)))) in
    let earlier : c.earlier_duty-earlier.result.now ≡ earlier_duty c.args.clash.earlier = c.earlier_duty-earlier.ensures in
    let syndrome : string_bytes c.in_ok-syndrome.syndrome ≡ syndrome_drawn (columns_of c.args.code.now) (data_of c.args.code.now) c.args.clash.earlier = c.in_ok-syndrome.ensures in
    let made : IfOk c.format.result (λ t. string_bytes t ≡ line c.earlier_duty-earlier.result.now (string_bytes c.in_ok-syndrome.syndrome)) = search rules in
    subst (λ (l : List ℕ). IfOk c.format.result (λ t. string_bytes t ≡ l)) (ap (λ (l : List ℕ). line l (string_bytes c.in_ok-syndrome.syndrome)) earlier ∙ ap (line (earlier_duty c.args.clash.earlier)) syndrome) made
