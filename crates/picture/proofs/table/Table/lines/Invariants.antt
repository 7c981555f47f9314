use Rattle.std.proofs.Common.{◌≡◌, ◌++◌, ◌∷◌, ℕ, List, string_bytes, codes}
use Rattle.std.specs.List.{flat_map, range_with_len}
use Rattle.picture.specs.Pictured.{number_line}
use Rattle.picture.specs.Shown.{Writes}
use Rattle.picture.proofs.table.Table.lines.Given as goal

abbrev pub invariant-loop-i : goal.invariant-loop-i
invariant-loop-i g l = (text : ℕ → List ℕ) → Writes (goal.F-post g l.line) text → string_bytes l.text ≡ number_line (codes "column") l.fn.self.width l.numbers ++ flat_map (λ i. 10 ∷ text i) (range_with_len 0 l.i)
