use Rattle.std.proofs.Common.{◌≡◌, ℕ, List, Result, IfOk, string_bytes, ap, ◌∙◌, subst}
use Rattle.code.specs.Meaning.{columns_of, data_of}
use Rattle.code.specs.declared.code.Code.{Code}
use Rattle.code.specs.declared.refusal.Refusal.{Refusal}
use Rattle.classes.specs.Meaning.{patterns_of, width_of}
use Rattle.classes.specs.declared.mixed.Mixed.{Mixed}
use Rattle.design.specs.Meaning.{code_of}
use Rattle.judge.specs.Decoding.{decoding}
use Rattle.judge.specs.declared.decoded.Decoded.{Decoded}
use Rattle.report.specs.Decoded.{decoded_text, decoding_line}
use Rattle.report.proofs.Fitting.{word_fits}
use Rattle.report.proofs.decoded.decoded_text.Goals as goal

pub decoding_line-requires : goal.decoding_line-requires
decoding_line-requires c = word_fits (columns_of c.code-code.result.now) (data_of c.code-code.result.now) _ _ c.args.word _ c.decode-decoding.ensures.value

pub returns : goal.returns
unfolding decoded_text
returns c =
    let of : Code → Mixed → Result Decoded Refusal = λ code class. decoding (columns_of code) (data_of code) (width_of class) (patterns_of class) c.args.word in
    let line : Code → Result Decoded Refusal → List ℕ = λ code r. decoding_line (columns_of code) (data_of code) c.args.word r in
    let code : Code = c.code-code.result.now in
    let same = ap (λ (r : Result Decoded Refusal). line code r) c.decode-decoding.ensures.value
    ∙ (ap (λ (x : Code). line x (of x c.class.result.now)) c.code-code.ensures
    ∙ ap (λ (x : Mixed). line (code_of c.args.design.now) (of (code_of c.args.design.now) x)) c.class.ensures.value) in
    subst (λ (l : List ℕ). IfOk c.decoding_line.result (λ t. string_bytes t ≡ l)) same c.decoding_line.ensures
