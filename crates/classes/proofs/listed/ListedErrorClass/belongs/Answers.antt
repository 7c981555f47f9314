use Rattle.std.proofs.Common.{◌+◌, ◌||◌, get_or, drop, sym, ap, ◌∙◌}
use Rattle.code.specs.Search.{among}
use Rattle.std.proofs.lemmas.Bool.{eq-eqb, ne_eqb}
use Rattle.std.proofs.lemmas.List.{at_drop_more, at_drop_all}
use Rattle.classes.proofs.listed.ListedErrorClass.belongs.Goals as goal

pub returns-then-listed-mask : goal.returns-then-listed-mask
returns-then-listed-mask c =
    let ms = c.args.self.now.masks.now in
    let m = c.args.mask in
    let i = c.loop-i._i in
    sym (at_drop_more (λ l. among l m) ms i 0 c.loop-i-test.true ∙ ap (λ b. b || among (drop (i + 1) ms) m) (eq-eqb (get_or ms i 0) m c.if-listed-mask.true)) ∙ c.loop-i.invariant

pub loop-i-preserved : goal.loop-i-preserved
loop-i-preserved c =
    let ms = c.args.self.now.masks.now in
    let m = c.args.mask in
    let i = c.loop-i._i in
    sym (at_drop_more (λ l. among l m) ms i 0 c.loop-i-test.true ∙ ap (λ b. b || among (drop (i + 1) ms) m) (ne_eqb (get_or ms i 0) m c.if-listed-mask.false)) ∙ c.loop-i.invariant

pub returns : goal.returns
returns c =
    let ms = c.args.self.now.masks.now in
    sym (at_drop_all (λ l. among l c.args.mask) ms c.loop-i._i c.loop-i-test.false) ∙ c.loop-i.invariant
