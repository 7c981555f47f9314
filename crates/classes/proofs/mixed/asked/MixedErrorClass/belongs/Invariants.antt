use Rattle.std.proofs.Common.{◌≡◌, drop}
use Rattle.code.specs.Search.{among}
use Rattle.listings.specs.Items.{mixed}
use Rattle.classes.proofs.mixed.asked.MixedErrorClass.belongs.Given as goal

abbrev pub invariant-loop-item : goal.invariant-loop-item
invariant-loop-item l = among (mixed l.width.columns (drop l.item-index l.items)) l.mask ≡ among (mixed l.width.columns l.items) l.mask
