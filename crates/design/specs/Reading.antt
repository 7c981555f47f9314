-- How a duty is read from its name.
use Rattle.std.specs.Prelude.{ℕ, List, Result, Ok, Err, ◌≡◌, ◌≢◌}
use Rattle.design.specs.Texts.{duty_name}
use Rattle.design.specs.declared.duty.Duty.{Duty}
use Rattle.design.specs.declared.duty.UnknownDuty.{UnknownDuty}

-- the duty is the one that the text names; where there is none the text is the name of no duty
abbrev pub ReadsDuty : List ℕ → Result Duty UnknownDuty → Type 0
ReadsDuty text (Ok duty) = text ≡ duty_name duty
ReadsDuty text (Err e) = (duty : Duty) → text ≢ duty_name duty
