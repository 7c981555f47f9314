use Rattle.std.proofs.Common.{rules}
use Rattle.std.proofs.lemmas.Result.{err_from_is_err_and}
use Rattle.code.specs.Shorts.{kept}
use Rattle.code.specs.Codes.{Covered}
use Rattle.code.proofs.Units.{Located}
use Rattle.code.proofs.Refusing.{refused_says, wellformed_opens}
use Rattle.code.proofs.Opening.{wellformed_from, laid_from}
use Rattle.code.proofs.code.Code.open.Goals as goal

pub returns-in_err-drawn-clause-value : goal.returns-in_err-drawn-clause-value
returns-in_err-drawn-clause-value c = let p = err_from_is_err_and c.from_residual.result c.from_residual.ensures.1 in
    rw (p.1, p.2) (refused_says c.args.values.now c.args.numbers.now _ c.in_err-drawn.ensures)

pub returns-in_err-check_values-clause-value : goal.returns-in_err-check_values-clause-value
returns-in_err-check_values-clause-value c =
    let p = err_from_is_err_and c.from_residual-in_err-check_values.result c.from_residual-in_err-check_values.ensures.1 in
    rw (p.1, p.2) (refused_says c.args.values.now c.args.numbers.now _ (search rules))

pub returns-in_err-checks-clause-value : goal.returns-in_err-checks-clause-value
returns-in_err-checks-clause-value c =
    let p = err_from_is_err_and c.from_residual-in_err-checks.result c.from_residual-in_err-checks.ensures.1 in
    rw (p.1, p.2) (refused_says c.args.values.now c.args.numbers.now _ (search rules))

pub invariant_of-result : goal.invariant_of-result
invariant_of-result c =
    let cs = c.args.values.now in
    let ds = c.args.numbers.now in
    let us = kept c.in_ok-checks.checks in
    let l : Located cs ds us = search rules in
    let covered : Covered cs ds us = search rules in
    let w = wellformed_from cs ds us (search rules) (search rules) (search rules) l covered in
    record { laid = laid_from cs ds (kept c.unwrap.result) (kept c.unwrap-2.result) us (rw c.unwrap.ensures at c.from_slice.ensures) (rw c.unwrap-2.ensures at c.from_slice-2.ensures) w l covered }

pub returns : goal.returns
returns c =
    let cs = c.args.values.now in
    let ds = c.args.numbers.now in
    let us = kept c.in_ok-checks.checks in
    let w = wellformed_from cs ds us (search rules) (search rules) (search rules) (search rules) (search rules) in
    record { value = (wellformed_opens cs ds w, (rw c.unwrap.ensures at c.from_slice.ensures), (rw c.unwrap-2.ensures at c.from_slice-2.ensures)); meaning = w }
