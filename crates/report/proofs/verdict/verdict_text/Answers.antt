use Rattle.std.proofs.Common.{◌≡◌, ℕ, List, IfOk, string_bytes, ap, ◌∙◌, subst}
use Rattle.code.specs.Meaning.{columns_of, data_of}
use Rattle.code.specs.declared.code.Code.{Code}
use Rattle.classes.specs.Meaning.{patterns_of, width_of}
use Rattle.classes.specs.declared.mixed.Mixed.{Mixed}
use Rattle.design.specs.Meaning.{class_of, code_of}
use Rattle.design.specs.declared.duty.Duty.TheVariants.{Correct}
use Rattle.judge.specs.Verdicts.{verdict}
use Rattle.report.specs.Verdicts.{said_of, verdict_text}
use Rattle.report.proofs.verdict.verdict_text.Goals as goal

pub returns : goal.returns
unfolding verdict_text
returns c =
    let text : Code → Mixed → Mixed → List ℕ = λ code first second. said_of (columns_of code) (data_of code) (verdict (columns_of code) (data_of code) (width_of first) (patterns_of first) (width_of second) (patterns_of second)) in
    let code : Code = code_of c.args.design.now in
    let same = ap (λ (x : Code). text x c.class.result.now c.class-2.result.now) c.code.ensures
    ∙ (ap (λ (x : Mixed). text code x c.class-2.result.now) c.class.ensures.value
    ∙ ap (λ (x : Mixed). text code (class_of c.args.design.now Correct) x) c.class-2.ensures.value) in
    subst (λ (l : List ℕ). IfOk c.judged_text.result (λ t. string_bytes t ≡ l)) same c.judged_text.ensures
