use Rattle.std.proofs.Common.{◌≡◌, true, sym, ap, ◌∙◌, subst}
use Rattle.code.specs.Shorts.{kept}
use Rattle.listings.specs.Items.{good_items}
use Rattle.listings.specs.Limits.{most_items}
use Rattle.classes.specs.Opening.{item_refusal}
use Rattle.classes.proofs.Mixing.{items_pass}
use Rattle.classes.proofs.Refusing.{settled}
use Rattle.classes.proofs.mixed.Mixed.open.Goals as goal

pub invariant_of-result : goal.invariant_of-result
invariant_of-result c =
    let items = c.args.items.now in
    let known = settled (item_refusal c.args.width) most_items c.args.width items c.in_ok-width.ensures.value.0 in
    let same : kept c.unwrap.result ≡ items = (rw c.unwrap.ensures at c.from_slice.ensures) in
    record { good = ap (good_items c.in_ok-width.width.columns) same ∙ subst (λ n. good_items n items ≡ true) (sym c.in_ok-width.ensures.value.1) (items_pass c.args.width 0 items known.1) }
