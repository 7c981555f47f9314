use Rattle.std.proofs.Common.{◌≡◌, string_bytes, get_or}
use Rattle.std.specs.List.{flat_map, range_with_len}
use Rattle.code.specs.Meaning.{columns_of, data_of}
use Rattle.report.specs.Tables.{entry_line}
use Rattle.report.proofs.table.entry_lines.Given as goal

abbrev pub invariant-loop-syndrome : goal.invariant-loop-syndrome
invariant-loop-syndrome l = string_bytes l.text ≡ flat_map (λ s. entry_line (columns_of l.code) (data_of l.code) s (get_or l.entries s 0)) (range_with_len 0 l.syndrome)
