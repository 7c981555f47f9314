-- Refusals in their order.
use Rattle.std.specs.Prelude.{Bool, true, false, Err, Result}
use Rattle.code.specs.declared.refusal.Refusal.{Refusal}

-- a refusal unless the test holds; else what the rest of the call answers
abbrev pub given : {X : Type 0} → Bool → Refusal → Result X Refusal → Result X Refusal
given true e answer = answer
given false e answer = Err e
