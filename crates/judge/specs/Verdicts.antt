-- The verdict on a design: a code with the column values cs and the data columns ds, a first class of width m that lists ps, and a second class of width o that lists qs.
use Rattle.std.specs.Prelude.{◌≡◌, ℕ, ◌^◌, ◌<◌, Bool, true, false, not, ◌&&◌, ◌||◌, ◌⊎◌, List, length, Some, None, Ok, Err, Option, Result, ◌==◌, ◌≢◌, bit_xor, slice_index}
use Rattle.code.specs.Codes.{encoding, syndrome}
use Rattle.code.specs.Search.{among, is_none, least}
use Rattle.code.specs.Words.{gather}
use Rattle.code.specs.declared.refusal.Clash.{Clash}
use Rattle.code.specs.declared.refusal.Refusal.{Refusal}
use Rattle.code.specs.declared.refusal.Refusal.TheVariants.{ColumnCount, OutOfBounds, OutOfBoundsAt, DataColumn, ColumnValue, NotUnits, CorrectableClash, DetectableClash, WidthsDiffer, BeyondEnd, TooWide, TooWideAt, LostCell, ShortTable, CampaignFull}
use Rattle.judge.specs.Answers.{given}
use Rattle.judge.specs.LineUp.{Accepted, Correctable, Detectable, FirstPair, line_up}
use Rattle.judge.specs.Rules.{DecodingServes, NoRule}

-- ---- computed

-- whether the place e of the line clashes with the place l behind it
abbrev pub clashes : List ℕ → List ℕ → List ℕ → ℕ → ℕ → Bool
clashes cs ps line e l = let p = slice_index line e in let q = slice_index line l in
    not (p == q) && (syndrome cs p == syndrome cs q && (p == 0 || among ps p))

-- the smallest earlier place that clashes with the place l
abbrev pub earlier_place : List ℕ → List ℕ → List ℕ → ℕ → Option ℕ
earlier_place cs ps line l = least (λ e. clashes cs ps line e l) 0 l

-- the smallest place that clashes with an earlier one
abbrev pub later_place : List ℕ → List ℕ → List ℕ → Option ℕ
later_place cs ps line = least (λ l. not (is_none (earlier_place cs ps line l))) 0 (length line)

-- what is shown of a clash of p and q: 0, and the data bits of p xor q
abbrev pub shown : List ℕ → ℕ → ℕ → Clash
shown ds p q = record { earlier = p; later = q; first = 0; second = gather ds (bit_xor p q) }

-- the refusal depends on whether the later pattern is to be corrected
abbrev pub clash_refusal : List ℕ → List ℕ → ℕ → ℕ → Refusal
clash_refusal ds ps p q = elim (among ps q) [ true ↦ CorrectableClash (shown ds p q) | false ↦ DetectableClash (shown ds p q) ]

-- the answer for the later place l, with the earlier place that was found for it; a later place is only taken where there is one
abbrev pub refused_at : List ℕ → List ℕ → List ℕ → ℕ → Option ℕ → Result ℕ Refusal
refused_at ds ps line l None = Ok (length line)
refused_at ds ps line l (Some e) = Err (clash_refusal ds ps (slice_index line e) (slice_index line l))

-- the answer for the later place that was found
abbrev pub judged_by : List ℕ → List ℕ → List ℕ → List ℕ → Option ℕ → Result ℕ Refusal
judged_by cs ds ps line None = Ok (length line)
judged_by cs ds ps line (Some l) = refused_at ds ps line l (earlier_place cs ps line l)

-- the verdict on a fitting design: the length of the line-up, or its first clash
abbrev pub fitting_verdict : List ℕ → List ℕ → List ℕ → List ℕ → Result ℕ Refusal
fitting_verdict cs ds ps qs = let line = line_up ps qs in judged_by cs ds ps line (later_place cs ps line)

abbrev pub verdict : List ℕ → List ℕ → ℕ → List ℕ → ℕ → List ℕ → Result ℕ Refusal
verdict cs ds m ps o qs = given (m == length cs && o == length cs) WidthsDiffer (fitting_verdict cs ds ps qs)

-- ---- in words

-- both classes have the width of the code
abbrev pub Fitting : List ℕ → ℕ → ℕ → Type 0
Fitting cs m o = (m ≡ length cs) × (o ≡ length cs)

-- two different data words reach one received word of n bits, the first through the earlier pattern and the second through the later one; the received word is the earlier pattern itself
abbrev pub Collides : List ℕ → List ℕ → Clash → Type 0
Collides cs ds c = (c.first < 2 ^ length ds) × (c.second < 2 ^ length ds) × (c.first ≢ c.second) × (c.earlier < 2 ^ length cs)
    × (bit_xor (encoding cs ds c.first) c.earlier ≡ c.earlier) × (bit_xor (encoding cs ds c.second) c.later ≡ c.earlier)

-- a refused clash: its patterns are those of the first one, two data words collide through them, and no rule does the duty
abbrev pub Refuses : List ℕ → List ℕ → List ℕ → List ℕ → Clash → Type 0
Refuses cs ds ps qs c = FirstPair cs ps qs c.earlier c.later × Collides cs ds c × NoRule cs ds ps qs

-- what each verdict says; a judge gives no other
abbrev pub Judged : List ℕ → List ℕ → ℕ → List ℕ → ℕ → List ℕ → Result ℕ Refusal → Type 0
Judged cs ds m ps o qs (Ok places) = Fitting cs m o × (places ≡ length (line_up ps qs)) × Accepted cs ps qs × DecodingServes cs ds ps qs
Judged cs ds m ps o qs (Err WidthsDiffer) = Fitting cs m o → ⊥
Judged cs ds m ps o qs (Err (CorrectableClash c)) = Fitting cs m o × Correctable ps c.later × Refuses cs ds ps qs c
Judged cs ds m ps o qs (Err (DetectableClash c)) = Fitting cs m o × Detectable ps qs c.later × Refuses cs ds ps qs c
Judged cs ds m ps o qs (Err ColumnCount) = ⊥
Judged cs ds m ps o qs (Err OutOfBounds) = ⊥
Judged cs ds m ps o qs (Err (OutOfBoundsAt i)) = ⊥
Judged cs ds m ps o qs (Err (DataColumn i)) = ⊥
Judged cs ds m ps o qs (Err (ColumnValue j)) = ⊥
Judged cs ds m ps o qs (Err NotUnits) = ⊥
Judged cs ds m ps o qs (Err BeyondEnd) = ⊥
Judged cs ds m ps o qs (Err TooWide) = ⊥
Judged cs ds m ps o qs (Err (TooWideAt i)) = ⊥
Judged cs ds m ps o qs (Err LostCell) = ⊥
Judged cs ds m ps o qs (Err ShortTable) = ⊥
Judged cs ds m ps o qs (Err CampaignFull) = ⊥

-- the answer refuses the design for a clash
abbrev pub ForClash : Result ℕ Refusal → Type 0
ForClash r = (c : Clash) × ((r ≡ Err (CorrectableClash c)) ⊎ (r ≡ Err (DetectableClash c)))

-- a fitting design is refused for a clash exactly when no rule does the duty
abbrev pub NoFalseVerdict : List ℕ → List ℕ → ℕ → List ℕ → ℕ → List ℕ → Result ℕ Refusal → Type 0
NoFalseVerdict cs ds m ps o qs r = Fitting cs m o → (ForClash r → NoRule cs ds ps qs) × (NoRule cs ds ps qs → ForClash r)
