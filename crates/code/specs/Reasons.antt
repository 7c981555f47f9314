-- What each refusal says of itself, as bytes.
use Rattle.std.specs.Prelude.{ℕ, List, ◌++◌, codes, decimal}
use Rattle.code.specs.declared.refusal.Refusal.{Refusal}
use Rattle.code.specs.declared.refusal.Refusal.TheVariants.{ColumnCount, OutOfBounds, OutOfBoundsAt, DataColumn, ColumnValue, NotUnits, CorrectableClash, DetectableClash, WidthsDiffer, BeyondEnd, TooWide, TooWideAt, LostCell, ShortTable, CampaignFull}

abbrev pub reason : Refusal → List ℕ
reason ColumnCount = codes "the number of columns is out of bounds"
reason OutOfBounds = codes "a number is out of bounds"
reason (OutOfBoundsAt i) = codes "a number is out of bounds"
reason (DataColumn i) = codes "a data column is not below the number of columns, or not above the one before"
reason (ColumnValue j) = codes "a column value needs a row that is not there"
reason NotUnits = codes "the check columns do not hold the units, each once"
reason (CorrectableClash c) = codes "patterns " ++ (decimal c.earlier ++ (codes " and " ++ (decimal c.later ++ codes " have one syndrome, and the second is to be corrected")))
reason (DetectableClash c) = codes "pattern " ++ (decimal c.later ++ (codes " is to be flagged and has the syndrome of " ++ decimal c.earlier))
reason WidthsDiffer = codes "the widths do not fit each other"
reason BeyondEnd = codes "a number or an address lies beyond the end"
reason TooWide = codes "a word has a bit beyond its width"
reason (TooWideAt i) = codes "a word has a bit beyond its width"
reason LostCell = codes "the cell to scrub is lost"
reason ShortTable = codes "the table has no entry for some syndromes"
reason CampaignFull = codes "the campaign has counted all that it can"
