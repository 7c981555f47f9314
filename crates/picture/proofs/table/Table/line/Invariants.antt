use Rattle.std.proofs.Common.{◌≡◌, ◌-◌, ◌^◌, List, ◌∷◌, ◌++◌, ℕ, take, string_bytes}
use Rattle.std.specs.Fmt.{format_spec}
use Rattle.std.specs.List.{flat_map}
use Rattle.picture.specs.Shown.{Shows}
use Rattle.picture.proofs.table.Table.line.Given as goal

abbrev pub invariant-loop-cell : goal.invariant-loop-cell
invariant-loop-cell g l = (text : g.row.T.Denot → List ℕ) → Shows g.T.Display.styled_output (format_spec 32 3 0 l.width (2 ^ 64 - 1)) text → string_bytes l.line ≡ l.label ++ flat_map (λ x. 32 ∷ text x) (take l.cell-index l.cells)
