use Rattle.std.proofs.Common.{◌≡◌, ℕ, ◌<◌, length}
use Rattle.code.specs.Shorts.{kept}
use Rattle.code.specs.Codes.{Row}
use Rattle.code.proofs.layout.Drawn.check_columns.Given as goal

abbrev pub invariant-loop-i : goal.invariant-loop-i
invariant-loop-i l = (length (kept l.checks) ≡ l.i) × ((t : ℕ) → t < l.i → Row l.self.values.now l.self.numbers.now (kept l.checks) t)
