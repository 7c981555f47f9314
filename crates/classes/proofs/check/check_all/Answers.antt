use Rattle.std.proofs.Common.{◌≡◌, ◌∙◌, Some, None, subst, arith}
use Rattle.std.proofs.lemmas.Result.{err_from_is_err_and}
use Rattle.classes.specs.Opening.{first_refusal}
use Rattle.classes.proofs.Refusing.{decided, refused_here, passed_here, passed_all, tells}
use Rattle.classes.proofs.check.check_all.Goals as goal

pub returns-in_err-check-clause-value : goal.returns-in_err-check-clause-value
returns-in_err-check-clause-value g c =
    let p = err_from_is_err_and c.from_residual-in_err-check.result c.from_residual-in_err-check.ensures.1 in
    let xs = c.args.elements.now in
    let i = c.loop-i.i in
    let f = g.E.Element.refusal c.in_ok-checked.checked.columns in
    let here = subst (λ (x : g.row.E.Denot). f i x ≡ Some c.in_err-check.field-0.0) c.index-elements-i.is c.in_err-check.ensures in
    let first = refused_here f xs i c.index-elements-i.result c.in_err-check.field-0.0 (first_refusal f 0 xs) c.loop-i-test.true here c.loop-i.invariant in
    rw (p.1, p.2) (decided (g.E.Element.refusal c.args.width) c.args.most c.args.width xs c.in_ok-checked.ensures.0 (omega arith)
    ∙ subst (λ n. first_refusal (g.E.Element.refusal n) 0 xs ≡ Some c.in_err-check.field-0.0) c.in_ok-checked.ensures.1 first)

pub loop-i-preserved : goal.loop-i-preserved
loop-i-preserved g c =
    let xs = c.args.elements.now in
    let i = c.loop-i.i in
    let f = g.E.Element.refusal c.in_ok-checked.checked.columns in
    let here = subst (λ (x : g.row.E.Denot). f i x ≡ None) c.index-elements-i.is c.in_ok-check.ensures in
    passed_here f xs i c.index-elements-i.result (first_refusal f 0 xs) c.loop-i-test.true here c.loop-i.invariant

pub returns-clause-value : goal.returns-clause-value
returns-clause-value g c =
    let xs = c.args.elements.now in
    let first = passed_all (g.E.Element.refusal c.in_ok-checked.checked.columns) xs c.loop-i.i _ c.loop-i-test.false c.loop-i.invariant in (
      decided (g.E.Element.refusal c.args.width) c.args.most c.args.width xs c.in_ok-checked.ensures.0 (omega arith)
          ∙ subst (λ n. first_refusal (g.E.Element.refusal n) 0 xs ≡ None) c.in_ok-checked.ensures.1 first,
      c.in_ok-checked.ensures.1,
    )

pub returns-in_err-check-clause-tells : goal.returns-in_err-check-clause-tells
returns-in_err-check-clause-tells g c = tells c.args.width c.args.most (g.E.Element.refusal c.args.width) c.args.elements.now

pub returns-clause-tells : goal.returns-clause-tells
returns-clause-tells g c = tells c.args.width c.args.most (g.E.Element.refusal c.args.width) c.args.elements.now
