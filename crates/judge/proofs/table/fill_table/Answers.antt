use Rattle.std.proofs.Common.{◌≡◌, ◌^◌, ◌<◌, ◌++◌, length, cond, eqb, drop, get_or, ap, sym, subst, ◌∙◌, inl, inr, rules, arith, pow_pos}
use Rattle.std.proofs.Math.ListN.{length-set}
use Rattle.std.proofs.lemmas.List.{length-append, length-drop, length-take}
use Rattle.std.proofs.lemmas.Bool.{cases_eq}
use Rattle.code.specs.Codes.{rows, syndrome}
use Rattle.code.specs.Meaning.{columns_of, data_of}
use Rattle.code.proofs.Codewords.{syndromes_fit}
use Rattle.code.proofs.Members.{among_at}
use Rattle.code.proofs.Values.{every_code}
use Rattle.listings.specs.Lawful.{Patterns}
use Rattle.judge.proofs.Decodings.{patterns_fit}
use Rattle.judge.specs.Tables.{HoldsTable, flag_entry}
use Rattle.judge.proofs.Tables.{all_written, cleared_begins, cleared_stays, filled_begins, written_here, written_other}
use Rattle.judge.proofs.table.fill_table.Goals as goal

pub loop-i-init : goal.loop-i-init
loop-i-init g c =
    let code = c.args.code.now in
    let count = c.entry_count-count.result in
    let taken = length-take count c.args.table.now in
    let long : length c.clear.new.entries ≡ count = omega arith in
    let some = pow_pos (rows (columns_of code) (data_of code)) in
    let positive : 0 < count = omega arith in record {
      front = λ s h. cleared_begins (columns_of code) (g.C.ErrorClass.patterns c.args.class.now) count c.clear.new.entries c.args.table.now s long (omega arith) c.clear.ensures;
      rest = λ s h. cleared_stays count c.clear.new.entries c.args.table.now s long positive (omega arith);
    }

pub enter-requires-clause-fits : goal.enter-requires-clause-fits
enter-requires-clause-fits g c =
    let n = length (columns_of c.args.code.now) in
    let ps = g.C.ErrorClass.patterns c.args.class.now in
    let each : Patterns n ps = patterns_fit _ n ps (g.C.ErrorClass.lawful c.args.class.now) (omega arith) in
    subst (λ p. p < 2 ^ n) (sym c.pattern.ensures) (each (get_or ps c.loop-i.i 0) (among_at ps c.loop-i.i (omega arith))).1

pub loop-i-preserved : goal.loop-i-preserved
loop-i-preserved g c =
    let code = c.args.code.now in
    let cs = columns_of code in
    let ps = g.C.ErrorClass.patterns c.args.class.now in
    let i = c.loop-i.i in
    let p = get_or ps i 0 in
    let each : Patterns (length cs) ps = patterns_fit _ (length cs) ps (g.C.ErrorClass.lawful c.args.class.now) (omega arith) in
    let listed : i < length ps = omega arith in
    let is : c.pattern.result ≡ p = c.pattern.ensures in
    let fit = syndromes_fit cs (data_of code) (every_code code) p in record {
      front = λ s h. elim (cases_eq s (syndrome cs p)) [
        | inl e ↦
            (let before = c.loop-i.invariant.front s h in
            c.enter.ensures.here s (e ∙ ap (syndrome cs) (sym is))
            ∙ (ap (λ x. cond (eqb (get_or c.loop-i.table s 0) flag_entry) x (get_or c.loop-i.table s 0)) is
            ∙ (ap (λ x. cond (eqb x flag_entry) p x) before ∙ written_here (length cs) cs ps i s code.laid.shape.1 each listed e)))
        | inr ne ↦
            c.enter.ensures.others s (λ e. ne (e ∙ ap (syndrome cs) is)) ∙ (c.loop-i.invariant.front s h ∙ written_other (length cs) cs ps i s code.laid.shape.1 each listed ne)
      ];
      rest = λ s h. c.enter.ensures.others s (λ e. let z : s ≡ syndrome cs p = e ∙ ap (syndrome cs) is in absurd (omega arith)) ∙ c.loop-i.invariant.rest s h;
    }

pub returns : goal.returns
returns g c =
    let code = c.args.code.now in
    let cs = columns_of code in
    let ds = data_of code in
    let ps = g.C.ErrorClass.patterns c.args.class.now in
    let count = c.entry_count-count.result in
    let taken = length-take count c.args.table.now in
    let dropped = length-drop count c.args.table.now in
    let all = length-append c.clear.new.entries (drop count c.args.table.now) in
    let whole = length-set (c.clear.new.entries ++ drop count c.args.table.now) 0 0 in
    let done = all_written cs ds ps c.loop-i.i c.loop-i.table c.args.table.now (omega arith) (omega arith) (omega arith) c.loop-i.invariant.front c.loop-i.invariant.rest in (
      (search rules),
      done,
      subst (HoldsTable cs ds ps) (sym done) (filled_begins cs ds ps c.args.table.now),
    )
