use Rattle.std.proofs.Common.{◌≡◌, ◌++◌, take, string_bytes}
use Rattle.design.specs.Texts.{class_text, item_lines}
use Rattle.design.proofs.design.Design.section.Given as goal

abbrev pub invariant-loop-item : goal.invariant-loop-item
invariant-loop-item l = string_bytes l.text ≡ class_text l.fn.self l.fn.duty ++ item_lines (take l.item-index l.item-items)
