-- What each refusal is by its number, and the values that go with the number.
use Rattle.std.specs.Prelude.{ℕ, List, [], ◌∷◌}
use Rattle.code.specs.declared.refusal.Refusal.{Refusal}
use Rattle.code.specs.declared.refusal.Refusal.TheVariants.{ColumnCount, OutOfBounds, OutOfBoundsAt, DataColumn, ColumnValue, NotUnits, CorrectableClash, DetectableClash, WidthsDiffer, BeyondEnd, TooWide, TooWideAt, LostCell, ShortTable, CampaignFull}
use Rattle.code.specs.declared.refusal.Clash.{Clash}

abbrev pub number_of : Refusal → ℕ
number_of ColumnCount = 1
number_of OutOfBounds = 2
number_of (OutOfBoundsAt i) = 2
number_of (DataColumn i) = 3
number_of (ColumnValue j) = 4
number_of NotUnits = 5
number_of (CorrectableClash c) = 6
number_of (DetectableClash c) = 7
number_of WidthsDiffer = 8
number_of BeyondEnd = 9
number_of TooWide = 10
number_of (TooWideAt i) = 10
number_of LostCell = 11
number_of ShortTable = 12
number_of CampaignFull = 13

-- the earlier pattern, the later pattern, and the two data words that reach one received word through them
abbrev pub clash_values : Clash → List ℕ
clash_values c = c.earlier ∷ (c.later ∷ (c.first ∷ (c.second ∷ [])))

abbrev pub values_of : Refusal → List ℕ
values_of ColumnCount = []
values_of OutOfBounds = []
values_of (OutOfBoundsAt i) = i ∷ []
values_of (DataColumn i) = i ∷ []
values_of (ColumnValue j) = j ∷ []
values_of NotUnits = []
values_of (CorrectableClash c) = clash_values c
values_of (DetectableClash c) = clash_values c
values_of WidthsDiffer = []
values_of BeyondEnd = []
values_of TooWide = []
values_of (TooWideAt i) = i ∷ []
values_of LostCell = []
values_of ShortTable = []
values_of CampaignFull = []
