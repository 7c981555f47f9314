use Rattle.std.proofs.Common.{◌≡◌, ℕ, max, List, ◌∷◌, ◌++◌, map, length, IfOk, string_bytes, codes, decimal, refl, ap, ◌∙◌, append_assoc, subst, rules}
use Rattle.std.specs.List.{flat_map, range_with_len}
use Rattle.picture.specs.Pictured.{kind_cells, label, letter, number_line, pictured, row_lines, row_of, table_width, widest}
use Rattle.picture.proofs.Cells.{kinds_shown, numbers_shown, right_char, right_number}
use Rattle.picture.proofs.matrix.matrix_picture.Goals as goal

pub returns : goal.returns
unfolding pictured table_width label
returns c =
    let vs : List ℕ = c.args.values.now in
    let ds : List ℕ = c.args.data_columns.now in
    let w : ℕ = c.matrix_width-width.result in
    let ns : List ℕ = range_with_len 0 (length vs) in
    let first : c.deref.result.now ≡ ns = c.deref.ensures.value ∙ c.in_ok-numbers.ensures in
    let second : c.deref-2.result.now ≡ ns = c.deref-2.ensures.value ∙ c.in_ok-numbers.ensures in
    let wide : w ≡ max (widest ns) (widest vs) = c.matrix_width-width.ensures ∙ ap (λ (l : List ℕ). max (widest l) (widest vs)) first in
    let upper : string_bytes c.in_ok-upper.upper ≡ number_line (codes "column") w ns ++ row_lines w vs c.args.rows 0 = c.in_ok-upper.ensures (λ i. number_line (codes "row " ++ decimal i) w (row_of i vs)) (λ i r k. search rules) ∙ ap (λ (l : List ℕ). number_line (codes "column") w l ++ row_lines w vs c.args.rows 0) second in
    let below : string_bytes c.in_ok-below.below ≡ number_line (codes "value") w vs = c.in_ok-below.ensures (right_number w) (λ n. refl) ∙ numbers_shown (codes "value") (codes "value ") w vs _ refl refl in
    let kinds : c.deref-3.result.now ≡ map (letter ds) ns = c.deref-3.ensures.value ∙ c.in_ok-kinds.ensures in
    let last : string_bytes c.in_ok-last.last ≡ codes "kind  " ++ kind_cells w ds (length vs) 0 =
    c.in_ok-last.ensures (right_char w) (λ x. refl) ∙ (ap (λ (l : List ℕ). codes "kind  " ++ flat_map (λ x. 32 ∷ right_char w x) l) kinds ∙ ap (λ (l : List ℕ). codes "kind  " ++ l) (kinds_shown w ds ns)) in
    let made : IfOk c.format.result (λ t. string_bytes t ≡ string_bytes c.in_ok-upper.upper ++ (10 ∷ (string_bytes c.in_ok-below.below ++ (10 ∷ string_bytes c.in_ok-last.last)))) = search rules in
    let drawn : string_bytes c.in_ok-upper.upper ++ (10 ∷ (string_bytes c.in_ok-below.below ++ (10 ∷ string_bytes c.in_ok-last.last))) ≡ number_line (codes "column") w ns ++ (row_lines w vs c.args.rows 0 ++ ((10 ∷ number_line (codes "value") w vs) ++ (10 ∷ (codes "kind  " ++ kind_cells w ds (length vs) 0)))) =
    rw (upper, below, last) (append_assoc (number_line (codes "column") w ns) (row_lines w vs c.args.rows 0) ((10 ∷ number_line (codes "value") w vs) ++ (10 ∷ (codes "kind  " ++ kind_cells w ds (length vs) 0)))) in
    subst (λ (l : List ℕ). IfOk c.format.result (λ t. string_bytes t ≡ l)) (drawn ∙ ap (λ (x : ℕ). number_line (codes "column") x ns ++ (row_lines x vs c.args.rows 0 ++ ((10 ∷ number_line (codes "value") x vs) ++ (10 ∷ (codes "kind  " ++ kind_cells x ds (length vs) 0))))) wide) made
