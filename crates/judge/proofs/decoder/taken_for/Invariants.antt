use Rattle.std.proofs.Common.{◌≡◌, ℕ, ◌<◌, false, ◌∷◌, get_or}
use Rattle.code.specs.Meaning.{columns_of}
use Rattle.judge.specs.Decoding.{leaves}
use Rattle.judge.proofs.decoder.taken_for.Given as goal

abbrev pub invariant-loop-place : goal.invariant-loop-place
invariant-loop-place g l = (j : ℕ) → j < l.place → leaves (columns_of l.code) l.syndrome (get_or (0 ∷ g.C.ErrorClass.patterns l.class) j 0) ≡ false
