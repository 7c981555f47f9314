use Rattle.std.proofs.Common.{◌≡◌, drop}
use Rattle.classes.specs.Opening.{first_refusal}
use Rattle.classes.proofs.check.check_all.Given as goal

abbrev pub invariant-loop-i : goal.invariant-loop-i
invariant-loop-i g l = first_refusal (g.E.Element.refusal l.checked.columns) l.i (drop l.i l.elements) ≡ first_refusal (g.E.Element.refusal l.checked.columns) 0 l.elements
