use Rattle.std.proofs.Common.{◌≡◌, ◌<◌, ◌++◌, ◌∷◌, [], length, None, refl, sym, ap, ◌∙◌, rules, arith}
use Rattle.std.proofs.lemmas.List.{length_push}
use Rattle.std.proofs.lemmas.Result.{err_from_is_err_and}
use Rattle.code.specs.Shorts.{kept}
use Rattle.code.proofs.Shorts.{kept_few}
use Rattle.listings.specs.Items.{good_items}
use Rattle.listings.specs.Limits.{most_items}
use Rattle.classes.specs.Opening.{item_refusal}
use Rattle.classes.specs.Meaning.{items_of}
use Rattle.classes.proofs.Mixing.{good_push, item_passes, one_more}
use Rattle.classes.proofs.mixed.Mixed.with_item.Goals as goal

pub returns-in_err-check : goal.returns-in_err-check
returns-in_err-check c =
    let s = c.args.self.now in
    let items = items_of s in
    let p = err_from_is_err_and c.from_residual-in_err-check.result c.from_residual-in_err-check.ensures.1 in
    let longer : kept c.push.new.self ≡ items ++ c.args.item ∷ [] = search rules in
    let room : length items < most_items = omega (arith, kept_few c.push.new.self, ap length longer, length_push items c.args.item) in
    rw (p.1, p.2) (one_more s.width.columns items c.args.item s.width.low s.width.high room s.good
    ∙ (ap (λ xs. item_refusal s.width.columns (length xs) c.args.item) (sym c.items.ensures) ∙ c.in_err-check.ensures))

pub invariant_of-result : goal.invariant_of-result
invariant_of-result c =
    let s = c.args.self.now in
    let items = items_of s in
    let longer : kept c.push.new.self ≡ items ++ c.args.item ∷ [] = search rules in
    let passes : item_refusal s.width.columns (length items) c.args.item ≡ None = ap (λ xs. item_refusal s.width.columns (length xs) c.args.item) (sym c.items.ensures) ∙ c.in_ok-check.ensures in
    record { good = ap (good_items s.width.columns) longer ∙ good_push s.width.columns items c.args.item s.good (item_passes s.width.columns (length items) c.args.item passes) }

pub returns : goal.returns
returns c =
    let s = c.args.self.now in
    let items = items_of s in
    let longer : kept c.push.new.self ≡ items ++ c.args.item ∷ [] = search rules in
    let room : length items < most_items = omega (arith, kept_few c.push.new.self, ap length longer, length_push items c.args.item) in (
      one_more s.width.columns items c.args.item s.width.low s.width.high room s.good
          ∙ (ap (λ xs. item_refusal s.width.columns (length xs) c.args.item) (sym c.items.ensures) ∙ c.in_ok-check.ensures),
      refl,
      longer,
    )
