use Rattle.std.proofs.Common.{◌≡◌, ℕ, List, ◌++◌, length, get_or, IfOk, string_bytes, codes, ap, ◌∙◌, subst, rules}
use Rattle.std.specs.List.{range_with_len}
use Rattle.picture.specs.Patterned.{column_width, pattern_line, pattern_lines, patterned}
use Rattle.picture.specs.Pictured.{number_line, widest}
use Rattle.picture.proofs.patterns.patterns_picture.Goals as goal

pub returns : goal.returns
unfolding patterned
returns c =
    let ps : List ℕ = c.args.patterns.now in
    let n : ℕ = c.args.columns in
    let ns : List ℕ = range_with_len 0 n in
    let table : List ℕ → ℕ → List ℕ = λ numbers w. number_line (codes "column") w numbers ++ pattern_lines w n ps (length ps) 0 in
    let first : c.deref.result.now ≡ ns = c.deref.ensures.value ∙ c.in_ok-numbers.ensures in
    let second : c.deref-2.result.now ≡ ns = c.deref-2.ensures.value ∙ c.in_ok-numbers.ensures in
    let wide : c.widest_of-width.result ≡ column_width n = c.widest_of-width.ensures ∙ ap widest first in
    let same : table c.deref-2.result.now c.widest_of-width.result ≡ table ns (column_width n) =
    ap (λ (l : List ℕ). table l c.widest_of-width.result) second ∙ ap (λ (w : ℕ). table ns w) wide in
    subst (λ (l : List ℕ). IfOk c.lines.result (λ t. string_bytes t ≡ l)) same (c.lines.ensures (λ i. pattern_line c.widest_of-width.result n i (get_or ps i 0)) (λ i r k. search rules))
