-- A line of a script without its comment.
use Rattle.std.specs.Prelude.{ℕ, List, not, ◌==◌}
use Rattle.std.specs.List.{take_while}

-- the bytes before the first 35, which is the number sign
abbrev pub uncommented : List ℕ → List ℕ
uncommented line = take_while (λ b. not (b == 35)) line
