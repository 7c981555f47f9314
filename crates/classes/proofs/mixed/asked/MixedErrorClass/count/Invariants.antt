use Rattle.std.proofs.Common.{◌≡◌, ◌+◌, length, drop}
use Rattle.listings.specs.Items.{mixed}
use Rattle.classes.proofs.mixed.asked.MixedErrorClass.count.Given as goal

abbrev pub invariant-loop-item : goal.invariant-loop-item
invariant-loop-item l = l.total + length (mixed l.width.columns (drop l.item-index l.items)) ≡ length (mixed l.width.columns l.items)
