-- What is said of a decoding table, as bytes. The code has the column values cs and the data columns ds.
use Rattle.std.specs.Prelude.{ℕ, cond, List, [], ◌++◌, length, count_by, codes, decimal, ◌==◌, slice_index}
use Rattle.std.specs.List.{flat_map, range_with_len}
use Rattle.code.specs.Codes.{rows}
use Rattle.code.specs.Meaning.{columns_of, data_of}
use Rattle.classes.specs.Meaning.{patterns_of}
use Rattle.picture.specs.Drawn.{value_drawn}
use Rattle.design.specs.Meaning.{class_of, code_of}
use Rattle.design.specs.declared.design.Design.{Design}
use Rattle.design.specs.declared.duty.Duty.TheVariants.{Correct}
use Rattle.judge.specs.Tables.{decoding_table, flag_entry}

-- the line of the syndrome s with its entry; a syndrome that flags has none
abbrev pub entry_line : List ℕ → List ℕ → ℕ → ℕ → List ℕ
entry_line cs ds s entry = cond (entry == flag_entry) [] (codes "syndrome " ++ (value_drawn (codes "rows") (rows cs ds) s ++ (codes ": pattern " ++ (value_drawn (codes "columns") (length cs) entry ++ codes "\n"))))

-- the lines of all entries, the first for the syndrome 0
abbrev pub entry_lines : List ℕ → List ℕ → List ℕ → List ℕ
entry_lines cs ds entries = flat_map (λ s. entry_line cs ds s (slice_index entries s)) (range_with_len 0 (length entries))

-- how many entries say flag
abbrev pub flag_count : List ℕ → ℕ
flag_count entries = count_by (λ entry. entry == flag_entry) entries

-- the lines, and how many syndromes flag
abbrev pub entries_text : List ℕ → List ℕ → List ℕ → List ℕ
entries_text cs ds entries = entry_lines cs ds entries ++ (codes "flags: " ++ (decimal (flag_count entries) ++ (codes " of " ++ (decimal (length entries) ++ codes " syndromes"))))

-- the decoding table of the design's code and its errors to correct
unfoldable pub table_text : Design → List ℕ
table_text d = entries_text (columns_of (code_of d)) (data_of (code_of d)) (decoding_table (columns_of (code_of d)) (data_of (code_of d)) (patterns_of (class_of d Correct)))
