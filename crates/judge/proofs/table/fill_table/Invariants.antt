use Rattle.std.proofs.Common.{◌≡◌, ℕ, ◌^◌, ◌<◌, ◌≤◌, get_or}
use Rattle.code.specs.Codes.{rows}
use Rattle.code.specs.Meaning.{columns_of, data_of}
use Rattle.judge.proofs.Tables.{written}
use Rattle.judge.proofs.table.fill_table.Given as goal

-- the table has its first patterns, and the later entries are as they were
abbrev pub invariant-loop-i : goal.invariant-loop-i
invariant-loop-i g l = record {
  front : (s : ℕ) → s < 2 ^ rows (columns_of l.code) (data_of l.code) → get_or l.table s 0 ≡ written (columns_of l.code) (g.C.ErrorClass.patterns l.class) l.i s;
  rest : (s : ℕ) → 2 ^ rows (columns_of l.code) (data_of l.code) ≤ s → get_or l.table s 0 ≡ get_or l.fn.table s 0;
}
