use Rattle.std.proofs.Common.{sym, subst}
use Rattle.listings.specs.Lawful.{Patterns}
use Rattle.listings.specs.Limits.{most_patterns}
use Rattle.classes.specs.Opening.{mask_refusal}
use Rattle.classes.proofs.Mixing.{masks_pass}
use Rattle.classes.proofs.Refusing.{settled}
use Rattle.classes.proofs.listed.Listed.open.Goals as goal

pub invariant_of-result : goal.invariant_of-result
invariant_of-result c =
    let ms = c.args.masks.now in
    let known = settled (mask_refusal c.args.width) most_patterns c.args.width ms c.in_ok-width.ensures.value.0 in
    record { few = known.0; each = subst (λ n. Patterns n ms) (sym c.in_ok-width.ensures.value.1) (masks_pass c.args.width 0 ms known.1) }
