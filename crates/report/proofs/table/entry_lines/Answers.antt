use Rattle.std.proofs.Common.{◌≡◌, ℕ, List, [], ◌++◌, get_or, string_bytes, ap, ◌∙◌}
use Rattle.code.specs.Meaning.{columns_of, data_of}
use Rattle.picture.proofs.Cells.{line_more}
use Rattle.report.specs.Tables.{entry_line}
use Rattle.report.proofs.table.entry_lines.Goals as goal

pub loop-syndrome-preserved : goal.loop-syndrome-preserved
loop-syndrome-preserved c =
    let line : ℕ → List ℕ = λ s. entry_line (columns_of c.args.code.now) (data_of c.args.code.now) s (get_or c.args.entries.now s 0) in
    let was : List ℕ = string_bytes c.loop-syndrome.text in
    let grown : string_bytes c.push_str.new.self ≡ was ++ string_bytes c.in_ok-line.line = c.in_ok-push_str.ensures.bytes ∙ ap (λ (l : List ℕ). was ++ l) c.deref.ensures in
    line_more line [] was (string_bytes c.in_ok-line.line) (string_bytes c.push_str.new.self) c.loop-syndrome.syndrome grown c.in_ok-line.ensures c.loop-syndrome.invariant
