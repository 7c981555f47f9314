use Rattle.std.proofs.Common.{length, ap, arith}
use Rattle.code.proofs.Shorts.{kept_few}
use Rattle.listings.specs.Items.{mixed}
use Rattle.listings.proofs.MixedItems.{mixed_few}
use Rattle.classes.specs.Meaning.{items_of}
use Rattle.classes.proofs.Mixing.{lent_good, count_more}
use Rattle.classes.proofs.mixed.asked.MixedErrorClass.count.Goals as goal

pub invariant_of-count : goal.invariant_of-count
invariant_of-count c = let s = c.args.self.now in record { good = lent_good s.width.columns _ (items_of s) c.loop-item.item-index _ c.items-items.ensures c.loop-item-test.true s.good }

pub overflow_add-total : goal.overflow_add-total
overflow_add-total c =
    let s = c.args.self.now in
    let few = mixed_few s.width.columns (items_of s) s.width.high (kept_few s.items) s.good in
    let all = ap (λ xs. length (mixed s.width.columns xs)) c.items-items.ensures in
    let more = count_more s.width.columns c.items-items.result.now c.loop-item.item-index c.loop-item.total _ _ _ c.loop-item-test.true c.count-total.ensures c.loop-item.invariant in
    omega (arith, few, all, more)
