use Rattle.std.proofs.Common.{◌≡◌, ℕ, List, IfOk, string_bytes, ap, ◌∙◌, subst}
use Rattle.code.specs.Meaning.{columns_of, data_of}
use Rattle.code.specs.declared.code.Code.{Code}
use Rattle.classes.specs.Meaning.{patterns_of}
use Rattle.classes.specs.declared.mixed.Mixed.{Mixed}
use Rattle.design.specs.Meaning.{code_of}
use Rattle.judge.specs.Tables.{decoding_table}
use Rattle.report.specs.Tables.{entries_text, table_text}
use Rattle.report.proofs.table.table_text.Goals as goal

pub returns : goal.returns
unfolding table_text
returns c =
    let of : Code → Mixed → List ℕ = λ code class. decoding_table (columns_of code) (data_of code) (patterns_of class) in
    let text : Code → List ℕ → List ℕ = λ code entries. entries_text (columns_of code) (data_of code) entries in
    let code : Code = c.code-code.result.now in
    let entries : c.deref.result.now ≡ of code c.class.result.now = c.deref.ensures.value ∙ c.in_ok-entries.ensures in
    let same = ap (λ (l : List ℕ). text code l) entries
    ∙ (ap (λ (x : Code). text x (of x c.class.result.now)) c.code-code.ensures
    ∙ ap (λ (x : Mixed). text (code_of c.args.design.now) (of (code_of c.args.design.now) x)) c.class.ensures.value) in
    subst (λ (l : List ℕ). IfOk c.entries_text.result (λ t. string_bytes t ≡ l)) same c.entries_text.ensures
