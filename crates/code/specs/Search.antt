-- The first of some numbers that passes a test.
use Rattle.std.specs.Prelude.{ℕ, zero, suc, Bool, true, false, List, Some, None, Option, ◌==◌}
use Rattle.std.specs.List.{list_any}

-- the first that passes, of the count numbers from start on
abbrev pub least : (ℕ → Bool) → ℕ → ℕ → Option ℕ
least test start zero = None
least test start (suc count) = elim (test start) [ true ↦ Some start | false ↦ least test (suc start) count ]

-- whether none passes
abbrev pub is_none : Option ℕ → Bool
is_none None = true
is_none (Some i) = false

-- whether j is one of the numbers
abbrev pub among : List ℕ → ℕ → Bool
among is j = list_any (λ i. i == j) is
