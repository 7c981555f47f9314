use Rattle.classes.specs.Meaning.{items_of}
use Rattle.classes.proofs.Mixing.{lent_good}
use Rattle.classes.proofs.mixed.asked.MixedErrorClass.pattern_at.Goals as goal

pub invariant_of-entry : goal.invariant_of-entry
invariant_of-entry c = let s = c.args.self.now in record { good = lent_good s.width.columns _ (items_of s) c.loop-item.item-index _ c.items-items.ensures c.loop-item-test.true s.good }
