use Rattle.std.proofs.Common.{◌≡◌, ℕ, max, List, ◌∷◌, ◌++◌, length, IfOk, string_bytes, codes, ap, ◌∙◌, subst, rules}
use Rattle.std.specs.List.{range_with_len}
use Rattle.picture.specs.Marked.{mark_cells, mark_line, marked}
use Rattle.picture.specs.Pictured.{label, pictured, table_width, widest}
use Rattle.picture.proofs.marked.marked_picture.Goals as goal

pub returns : goal.returns
unfolding marked mark_line table_width label
returns c =
    let vs : List ℕ = c.args.values.now in
    let n : ℕ = length vs in
    let w : ℕ = c.matrix_width-width.result in
    let numbers : c.deref.result.now ≡ range_with_len 0 n = c.deref.ensures.value ∙ c.in_ok-numbers.ensures in
    let wide : w ≡ table_width vs = c.matrix_width-width.ensures ∙ ap (λ (l : List ℕ). max (widest l) (widest vs)) numbers in
    let matrix : string_bytes c.in_ok-matrix.matrix ≡ pictured vs c.args.data_columns.now c.args.rows = c.in_ok-matrix.ensures in
    let first : string_bytes c.in_ok-first.first ≡ codes "p     " ++ mark_cells w c.args.p n 0 = c.in_ok-first.ensures in
    let second : string_bytes c.in_ok-second.second ≡ codes "q     " ++ mark_cells w c.args.q n 0 = c.in_ok-second.ensures in
    let made : IfOk c.format.result (λ t. string_bytes t ≡ string_bytes c.in_ok-matrix.matrix ++ (10 ∷ (string_bytes c.in_ok-first.first ++ (10 ∷ string_bytes c.in_ok-second.second)))) = search rules in
    let drawn : string_bytes c.in_ok-matrix.matrix ++ (10 ∷ (string_bytes c.in_ok-first.first ++ (10 ∷ string_bytes c.in_ok-second.second))) ≡ pictured vs c.args.data_columns.now c.args.rows ++ ((10 ∷ (codes "p     " ++ mark_cells w c.args.p n 0)) ++ (10 ∷ (codes "q     " ++ mark_cells w c.args.q n 0))) = cc in
    subst (λ (l : List ℕ). IfOk c.format.result (λ t. string_bytes t ≡ l)) (drawn ∙ ap (λ (x : ℕ). pictured vs c.args.data_columns.now c.args.rows ++ ((10 ∷ (codes "p     " ++ mark_cells x c.args.p n 0)) ++ (10 ∷ (codes "q     " ++ mark_cells x c.args.q n 0)))) wide) made
