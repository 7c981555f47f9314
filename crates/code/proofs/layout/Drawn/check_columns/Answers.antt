use Rattle.std.proofs.Common.{◌≡◌, None, sym, subst, ◌∙◌, arith}
use Rattle.std.proofs.lemmas.Result.{err_from_is_err_and}
use Rattle.code.specs.Codes.{Covered}
use Rattle.code.specs.Shorts.{kept}
use Rattle.code.specs.declared.refusal.Refusal.TheVariants.{NotUnits}
use Rattle.code.proofs.Units.{Located, covered_from}
use Rattle.code.proofs.layout.Drawn.check_columns.Goals as goal

pub returns-in_err-j : goal.returns-in_err-j
returns-in_err-j c =
    let p = err_from_is_err_and c.from_residual.result c.from_residual.ensures.1 in
    let e : c.in_err-j.field-0.0 ≡ NotUnits = grind arith in
    let n : c.check_column.result ≡ None = grind arith in
    let bare = (rw n at c.check_column.ensures) in
    rw (p.1, p.2, e) (
      c.args.self.now.shape,
      c.args.self.now.good,
      c.requires,
      λ u.
          let s = u.some_check c.loop-i.i (omega arith) in bare s.0 s.1 (s.2 ∙ sym (c.weight.ensures.power (omega (arith, c.args.self.now.shape.4)))),
    )

pub returns-then-not-covers : goal.returns-then-not-covers
returns-then-not-covers c = (
  c.args.self.now.shape,
  c.args.self.now.good,
  c.requires,
  λ u.
      let us = kept c.loop-i.checks in
      let l : Located c.args.self.now.values.now c.args.self.now.numbers.now us = (omega arith, λ t h. c.loop-i.invariant.1 t (omega arith)) in
      c.covers.ensures.no c.if-not-covers.true (subst (Covered c.args.self.now.values.now c.args.self.now.numbers.now) (sym c.as_slice.ensures.value) (covered_from c.args.self.now.values.now c.args.self.now.numbers.now us u l)),
)
