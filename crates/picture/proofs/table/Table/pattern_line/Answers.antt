use Rattle.std.proofs.Common.{◌≡◌, ℕ, List, ◌++◌, IfOk, string_bytes, codes, decimal, refl, ◌∙◌, subst, rules}
use Rattle.picture.specs.Patterned.{bits_of, pattern_line}
use Rattle.picture.specs.Pictured.{label, number_line}
use Rattle.picture.proofs.Cells.{left_decimal, numbers_shown, right_number}
use Rattle.picture.proofs.table.Table.pattern_line.Goals as goal

pub returns : goal.returns
unfolding pattern_line
returns c =
    let i : ℕ = c.args.i in
    let w : ℕ = c.args.self.width in
    let shown = rw c.laid_out.ensures at c.in_ok-label.ensures.ok in
    let named : c.deref.result.now ≡ label (decimal i) = c.deref.ensures ∙ (shown ∙ left_decimal i) in
    let bits : c.deref-2.result.now ≡ bits_of c.args.columns c.args.pattern = c.deref-2.ensures.value ∙ c.in_ok-bits.ensures in
    let cells : string_bytes c.in_ok-cells.cells ≡ number_line (decimal i) w (bits_of c.args.columns c.args.pattern) =
    c.in_ok-cells.ensures (right_number w) (λ n. refl) ∙ numbers_shown (decimal i) _ w _ _ named bits in
    subst (λ (l : List ℕ). IfOk c.format-2.result (λ t. string_bytes t ≡ l ++ (codes " = " ++ decimal c.args.pattern))) cells (search rules)
