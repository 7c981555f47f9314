use Rattle.std.proofs.Common.{◌≡◌, ◌+◌, ◌^◌, length, replicate, vec_items, ap, sym, ◌∙◌, subst, arith, rules}
use Rattle.script.specs.Stacked.{AllBelow}
use Rattle.script.proofs.Stacks.{blank_below, drawn_below}
use Rattle.script.proofs.drawing.Drawing.add_row.Goals as goal
use Rattle.script.proofs.drawing.Drawing.add_row.Goals.{then-self-eq0+in_ok-blank+in_ok-values, else-self-eq0+else-row-above+in_ok-values-2}

pub invariant_of-self : goal.invariant_of-self
invariant_of-self c =
    let row = c.args.row.now in
    let below : AllBelow (2 ^ (c.args.self.now.rows + 1)) (vec_items c.if-self-eq0.values) = elim c.if-self-eq0.branch [
      | then-self-eq0+in_ok-blank+in_ok-values w ↦
          let blank : w.deref.result.now ≡ replicate (length row) 0 = search rules in
          let low : AllBelow 1 w.deref.result.now = subst (λ l. AllBelow 1 l) (sym blank) (blank_below (length row)) in
          let first = drawn_below 0 (vec_items c.if-self-eq0.values) w.deref.result.now row (ap vec_items w.values-is ∙ w.in_ok-values.ensures) low in
          subst (λ n. AllBelow (2 ^ (n + 1)) (vec_items c.if-self-eq0.values)) (sym w.if-self-eq0.true) first
      | else-self-eq0+else-row-above+in_ok-values-2 w ↦
          drawn_below c.args.self.now.rows (vec_items c.if-self-eq0.values) w.column_values-above.result.now row (ap vec_items w.values-is ∙ w.in_ok-values-2.ensures) (search rules)
    ] in
    record { bounded = (omega arith, below) }
