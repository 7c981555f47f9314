-- A short list keeps no more values than it has room for.
use Rattle.std.proofs.Common.{ℕ, ◌≤◌, length, arith}
use Rattle.std.proofs.lemmas.List.{length-take-le}
use Rattle.code.specs.Shorts.{kept}
use Rattle.code.specs.declared.short.Short.{Short}

pub kept_few : {T : Type 0} {N : ℕ} (s : Short T N) → length (kept s) ≤ N
kept_few s = let few = s.few in omega (arith, length-take-le s.size s.all (omega (arith, s.sized, s.few)))
