-- What is said of the verdict on a design, as bytes.
use Rattle.std.specs.Prelude.{ℕ, ◌^◌, ◌<◌, List, ◌++◌, Ok, Err, codes, decimal, Result}
use Rattle.code.specs.Meaning.{columns_of, data_of}
use Rattle.code.specs.Reasons.{reason}
use Rattle.code.specs.Refusals.{number_of}
use Rattle.code.specs.declared.refusal.Refusal.{Refusal}
use Rattle.code.specs.declared.refusal.Refusal.TheVariants.{CorrectableClash, DetectableClash}
use Rattle.classes.specs.Meaning.{patterns_of, width_of}
use Rattle.picture.specs.Nouns.{counted}
use Rattle.design.specs.Meaning.{class_of, code_of}
use Rattle.design.specs.declared.design.Design.{Design}
use Rattle.design.specs.declared.duty.Duty.TheVariants.{Correct, Detect}
use Rattle.judge.specs.Verdicts.{verdict}
use Rattle.report.specs.Clashes.{clash_text}

-- no two patterns of the line-up clash, which has so many
abbrev pub accepted_line : ℕ → List ℕ
accepted_line count = codes "judge: accepted, no clash among " ++ counted count (codes "pattern") (codes "patterns")

-- a refusal by its number and its own reason
abbrev pub refused_line : Refusal → List ℕ
refused_line e = codes "refused " ++ (decimal (number_of e) ++ (codes ": " ++ reason e))

-- a refusal, for a code with the column values cs and the data columns ds
abbrev pub refused_text : List ℕ → List ℕ → Refusal → List ℕ
refused_text cs ds (CorrectableClash c) = clash_text cs ds (number_of (CorrectableClash c)) (codes "corrected") c
refused_text cs ds (DetectableClash c) = clash_text cs ds (number_of (DetectableClash c)) (codes "flagged") c
refused_text cs ds e = refused_line e

abbrev pub said_of : List ℕ → List ℕ → Result ℕ Refusal → List ℕ
said_of cs ds (Ok count) = accepted_line count
said_of cs ds (Err e) = refused_text cs ds e

-- the verdict on the design's code, with the errors to correct and those to flag
abbrev pub verdict_of : Design → Result ℕ Refusal
verdict_of d = verdict (columns_of (code_of d)) (data_of (code_of d)) (width_of (class_of d Correct)) (patterns_of (class_of d Correct)) (width_of (class_of d Detect)) (patterns_of (class_of d Detect))

unfoldable pub verdict_text : Design → List ℕ
verdict_text d = said_of (columns_of (code_of d)) (data_of (code_of d)) (verdict_of d)

-- ---- what a verdict has to show to be said

-- the earlier pattern of a clash has a syndrome, for it is a word of n bits
abbrev pub ClashFits : ℕ → Refusal → Type 0
ClashFits n (CorrectableClash c) = c.earlier < 2 ^ n
ClashFits n (DetectableClash c) = c.earlier < 2 ^ n
ClashFits n e = Unit {0}

abbrev pub EarlierFits : ℕ → Result ℕ Refusal → Type 0
EarlierFits n (Ok count) = Unit {0}
EarlierFits n (Err e) = ClashFits n e
