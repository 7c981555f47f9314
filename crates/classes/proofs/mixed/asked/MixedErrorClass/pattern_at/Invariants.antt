use Rattle.std.proofs.Common.{◌≡◌, drop}
use Rattle.listings.specs.Items.{mixed}
use Rattle.listings.specs.Lawful.{pattern_at}
use Rattle.classes.proofs.mixed.asked.MixedErrorClass.pattern_at.Given as goal

abbrev pub invariant-loop-item : goal.invariant-loop-item
invariant-loop-item l = pattern_at (mixed l.width.columns (drop l.item-index l.items)) l.rest ≡ pattern_at (mixed l.width.columns l.items) l.i
