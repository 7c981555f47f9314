use Rattle.std.proofs.Common.{◌+◌, ap, arith}
use Rattle.listings.specs.Listings.{choose}
use Rattle.listings.proofs.Choosing.{choose_none, choose_one, choose_some}
use Rattle.classes.proofs.random.rank.top_column.Goals as goal

-- a word with a single one has it in the column of its number
pub returns-then-t-eq1 : goal.returns-then-t-eq1
returns-then-t-eq1 c =
    let e = c.if-t-eq1.true in
    let top = c.args.top in
    let i = c.args.rest in
    let a = choose_one top in
    let b = choose_one i in
    let d = choose_one (i + 1) in
    let x = ap (choose top) e in
    let y = ap (choose i) e in
    let z = ap (choose (i + 1)) e in
    record { below = omega arith; from = omega arith; to = omega arith }

pub loop-high-init : goal.loop-high-init
loop-high-init c =
    let z = choose_none c.args.t (omega arith) in
    let s = choose_some c.args.top c.args.t c.args.rest (omega arith) (omega arith) in
    (omega arith, omega arith, omega arith, omega arith)
