use Rattle.std.proofs.Common.{◌≡◌, ℕ, List, ◌∷◌, ◌++◌, map, IfOk, string_bytes, refl, ap, ◌∙◌, subst}
use Rattle.std.specs.List.{flat_map, range_with_len}
use Rattle.picture.specs.Marked.{mark, mark_cells}
use Rattle.picture.proofs.Cells.{marks_shown, right_char}
use Rattle.picture.proofs.table.Table.mark_line.Goals as goal

pub returns : goal.returns
returns c =
    let w : ℕ = c.args.self.width in
    let p : ℕ = c.args.pattern in
    let js : List ℕ = range_with_len 0 c.args.count in
    let marks : c.deref.result.now ≡ map (mark p) js = c.deref.ensures.value ∙ c.in_ok-marks.ensures in
    let same : c.args.label.now ++ flat_map (λ x. 32 ∷ right_char w x) c.deref.result.now ≡ c.args.label.now ++ mark_cells w p c.args.count 0 =
    ap (λ (l : List ℕ). c.args.label.now ++ flat_map (λ x. 32 ∷ right_char w x) l) marks ∙ ap (λ (l : List ℕ). c.args.label.now ++ l) (marks_shown w p js) in
    subst (λ (l : List ℕ). IfOk c.line.result (λ t. string_bytes t ≡ l)) same (c.line.ensures (right_char w) (λ x. refl))
