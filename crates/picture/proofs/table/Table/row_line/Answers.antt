use Rattle.std.proofs.Common.{◌≡◌, ℕ, List, ◌++◌, IfOk, string_bytes, codes, decimal, refl, ◌∙◌, subst}
use Rattle.picture.specs.Pictured.{label, row_of}
use Rattle.picture.proofs.Cells.{numbers_shown, row_label, right_number}
use Rattle.picture.proofs.table.Table.row_line.Goals as goal

pub returns : goal.returns
returns c =
    let i : ℕ = c.args.i in
    let w : ℕ = c.args.self.width in
    let shown = rw c.laid_out.ensures at c.in_ok-label.ensures.ok in
    let named : c.deref.result.now ≡ label (codes "row " ++ decimal i) = c.deref.ensures ∙ (shown ∙ row_label i) in
    let digits : c.deref-2.result.now ≡ row_of i c.args.values.now = c.deref-2.ensures.value ∙ c.in_ok-digits.ensures in
    subst (λ (l : List ℕ). IfOk c.line.result (λ t. string_bytes t ≡ l)) (numbers_shown (codes "row " ++ decimal i) _ w _ _ named digits) (c.line.ensures (right_number w) (λ n. refl))
