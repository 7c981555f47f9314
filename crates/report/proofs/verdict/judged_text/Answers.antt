use Rattle.std.proofs.Common.{◌≡◌, ℕ, Result, IfOk, string_bytes, subst}
use Rattle.code.specs.Meaning.{columns_of, data_of}
use Rattle.code.specs.declared.refusal.Refusal.{Refusal}
use Rattle.report.specs.Verdicts.{said_of}
use Rattle.report.proofs.Fitting.{earlier_fits}
use Rattle.report.proofs.verdict.judged_text.Goals as goal

pub said_of-requires : goal.said_of-requires
said_of-requires g c = earlier_fits (columns_of c.args.code.now) (data_of c.args.code.now) _ _ _ _ _ c.judge.ensures.judged

pub returns : goal.returns
returns g c = subst (λ (r : Result ℕ Refusal). IfOk c.said_of.result (λ t. string_bytes t ≡ said_of (columns_of c.args.code.now) (data_of c.args.code.now) r)) c.judge.ensures.value c.said_of.ensures
