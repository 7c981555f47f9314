use Rattle.std.proofs.Common.{◌≡◌}
use Rattle.code.specs.Opening.{GoodColumns, floor}
use Rattle.code.proofs.layout.check_data_columns.Given as goal

abbrev pub invariant-loop-i : goal.invariant-loop-i
invariant-loop-i l = GoodColumns l.values l.numbers l.i × (l.floor ≡ floor l.numbers l.i)
