-- A short list in fixed memory means the values that are in use.
use Rattle.std.specs.Prelude.{ℕ, List, take}
use Rattle.code.specs.declared.short.Short.{Short}

abbrev pub kept : {T : Type 0} {N : ℕ} → Short T N → List T
kept s = take s.size s.all
