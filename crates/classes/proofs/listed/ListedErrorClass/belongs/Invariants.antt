use Rattle.std.proofs.Common.{◌≡◌, drop}
use Rattle.code.specs.Search.{among}
use Rattle.classes.proofs.listed.ListedErrorClass.belongs.Given as goal

abbrev pub invariant-loop-i : goal.invariant-loop-i
invariant-loop-i l = among (drop l._i l.self.masks.now) l.mask ≡ among l.self.masks.now l.mask
