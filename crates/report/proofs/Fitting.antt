-- Which words of what the judge and decoding answer are words of n bits, and so have a syndrome.
use Rattle.std.proofs.Common.{◌≡◌, ℕ, ◌^◌, ◌<◌, Bool, true, false, ltb, List, length, Ok, Err, Result, IfOk, refl, sym, subst}
use Rattle.std.proofs.lemmas.Bool.{ltb-true}
use Rattle.code.specs.declared.refusal.Refusal.{Refusal}
use Rattle.code.specs.declared.refusal.Refusal.TheVariants.{ColumnCount, OutOfBounds, OutOfBoundsAt, DataColumn, ColumnValue, NotUnits, CorrectableClash, DetectableClash, WidthsDiffer, BeyondEnd, TooWide, TooWideAt, LostCell, ShortTable, CampaignFull}
use Rattle.judge.specs.Answers.{given}
use Rattle.judge.specs.Decoding.{decoded, decoding}
use Rattle.judge.specs.Verdicts.{Judged}
use Rattle.judge.specs.declared.decoded.Decoded.{Decoded}
use Rattle.report.specs.Verdicts.{EarlierFits}

-- the received word of a clash is the earlier pattern
pub earlier_fits : (cs ds : List ℕ) (m : ℕ) (ps : List ℕ) (o : ℕ) (qs : List ℕ) (r : Result ℕ Refusal) → Judged cs ds m ps o qs r → EarlierFits (length cs) r
earlier_fits cs ds m ps o qs (Ok places) j = tt
earlier_fits cs ds m ps o qs (Err (CorrectableClash c)) j = j.2.1.3
earlier_fits cs ds m ps o qs (Err (DetectableClash c)) j = j.2.1.3
earlier_fits cs ds m ps o qs (Err WidthsDiffer) j = tt
earlier_fits cs ds m ps o qs (Err ColumnCount) j = tt
earlier_fits cs ds m ps o qs (Err OutOfBounds) j = tt
earlier_fits cs ds m ps o qs (Err (OutOfBoundsAt i)) j = tt
earlier_fits cs ds m ps o qs (Err (DataColumn i)) j = tt
earlier_fits cs ds m ps o qs (Err (ColumnValue i)) j = tt
earlier_fits cs ds m ps o qs (Err NotUnits) j = tt
earlier_fits cs ds m ps o qs (Err BeyondEnd) j = tt
earlier_fits cs ds m ps o qs (Err TooWide) j = tt
earlier_fits cs ds m ps o qs (Err (TooWideAt i)) j = tt
earlier_fits cs ds m ps o qs (Err LostCell) j = tt
earlier_fits cs ds m ps o qs (Err ShortTable) j = tt
earlier_fits cs ds m ps o qs (Err CampaignFull) j = tt

-- an answer behind a test says that the test holds
given_ok : {X : Type 0} (b : Bool) (e : Refusal) (answer : Result X Refusal) (P : Type 0) → (b ≡ true → IfOk answer (λ x. P)) → IfOk (given b e answer) (λ x. P)
given_ok true e answer P h = h refl
given_ok false e answer P h = tt

-- a word that is decoded is a word of n bits
pub word_fits : (cs ds : List ℕ) (m : ℕ) (ps : List ℕ) (w : ℕ) (r : Result Decoded Refusal) → r ≡ decoding cs ds m ps w → IfOk r (λ d. w < 2 ^ length cs)
word_fits cs ds m ps w r e =
    subst (λ (x : Result Decoded Refusal). IfOk x (λ d. w < 2 ^ length cs)) (sym e)
    (given_ok _ WidthsDiffer _ (w < 2 ^ length cs) (λ k. given_ok (ltb w (2 ^ length cs)) TooWide (Ok (decoded cs ds ps w)) (w < 2 ^ length cs) (λ t. ltb-true w (2 ^ length cs) t)))
