-- What a code value means: its column values and its data column numbers. And what its calls answer.
use Rattle.std.specs.Prelude.{◌≡◌, ℕ, ◌^◌, cond, List, Some, None, Ok, Err, Result, nat_lt}
use Rattle.code.specs.Codes.{Wellformed}
use Rattle.code.specs.Shorts.{kept}
use Rattle.code.specs.Opening.{refusal, Refused}
use Rattle.code.specs.declared.code.Code.{Code}
use Rattle.code.specs.declared.refusal.Refusal.{Refusal}
use Rattle.code.specs.declared.refusal.Refusal.TheVariants.{TooWide}

abbrev pub columns_of : Code → List ℕ
columns_of c = kept c.values

abbrev pub data_of : Code → List ℕ
data_of c = kept c.message

-- the answer for a word of the given width; a word with a bit beyond it is refused
abbrev pub within : ℕ → ℕ → ℕ → Result ℕ Refusal
within width w answer = cond (nat_lt w (2 ^ width)) (Ok answer) (Err TooWide)

-- what opening answers: a code of just these columns where nothing is refused, else the first refusal
abbrev pub Opened : List ℕ → List ℕ → Result Code Refusal → Type 0
Opened cs ds (Ok c) = (refusal cs ds ≡ None) × (columns_of c ≡ cs) × (data_of c ≡ ds)
Opened cs ds (Err e) = refusal cs ds ≡ Some e

-- the same in words
abbrev pub OpenedRightly : List ℕ → List ℕ → Result Code Refusal → Type 0
OpenedRightly cs ds (Ok c) = Wellformed cs ds
OpenedRightly cs ds (Err e) = Refused cs ds e
