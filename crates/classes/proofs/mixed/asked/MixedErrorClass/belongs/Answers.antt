use Rattle.std.proofs.Common.{true, false, sym, ap, ◌∙◌}
use Rattle.code.specs.Search.{among}
use Rattle.listings.specs.Items.{mixed}
use Rattle.classes.specs.Meaning.{items_of}
use Rattle.classes.proofs.Mixing.{lent_good, holds_more}
use Rattle.classes.proofs.mixed.asked.MixedErrorClass.belongs.Goals as goal

pub invariant_of-belongs : goal.invariant_of-belongs
invariant_of-belongs c = let s = c.args.self.now in record { good = lent_good s.width.columns _ (items_of s) c.loop-item.item-index _ c.items-items.ensures c.loop-item-test.true s.good }

pub returns-then-belongs : goal.returns-then-belongs
returns-then-belongs c =
    let n = c.args.self.now.width.columns in
    sym (holds_more n c.items-items.result.now c.loop-item.item-index c.args.mask _ true c.loop-item-test.true (sym c.if-belongs.true ∙ c.belongs.ensures))
    ∙ (c.loop-item.invariant ∙ ap (λ xs. among (mixed n xs) c.args.mask) c.items-items.ensures)

pub loop-item-preserved : goal.loop-item-preserved
loop-item-preserved c =
    sym (holds_more c.args.self.now.width.columns c.items-items.result.now c.loop-item.item-index c.args.mask _ false c.loop-item-test.true (sym c.if-belongs.false ∙ c.belongs.ensures))
    ∙ c.loop-item.invariant
