-- What the lines of a table are told of the values that stand in it.
use Rattle.std.specs.Prelude.{◌≡◌, ℕ, List, Some, Option, Result, IfOk, string_bytes}
use Rattle.std.specs.declared.alloc.AllocError.{AllocError}
use Rattle.std.specs.declared.alloc.Global.{Global}
use Rattle.std.specs.declared.string.String.{String}

-- text is what each value prints under the options s
abbrev pub Shows : {T S : Type 0} → (T → S → Option (List ℕ)) → S → (T → List ℕ) → Type 0
Shows {T} shown s text = (x : T) → shown x s ≡ Some (text x)

-- text is what is written for each place
abbrev pub Writes : (ℕ → Result (String Global) AllocError → Type 0) → (ℕ → List ℕ) → Type 0
Writes made text = (i : ℕ) (r : Result (String Global) AllocError) → made i r → IfOk r (λ t. string_bytes t ≡ text i)
