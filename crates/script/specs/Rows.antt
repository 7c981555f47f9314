-- The text of a drawn row, by its characters.
use Rattle.std.specs.Prelude.{◌≡◌, ℕ, Bool, true, false, not, cond, List, map, filter, Some, Option, ◌==◌}
use Rattle.std.specs.Char.{is_whitespace}
use Rattle.std.specs.List.{find}
use Rattle.script.specs.declared.fault.Fault.{Fault}
use Rattle.script.specs.declared.fault.Fault.TheVariants.{Memory, NotBit}

-- 0 or 1
abbrev pub is_digit : ℕ → Bool
is_digit c = cond (c == 48) true (c == 49)

-- the digits of a row, true for a 1 and false for a 0; any other character is passed over
abbrev pub row_digits : List ℕ → List Bool
row_digits cs = map (λ c. c == 49) (filter is_digit cs)

-- the first character that has no place in a row: neither 0 nor 1 nor white space
abbrev pub stranger : List ℕ → Option ℕ
stranger cs = find (λ c. cond (is_digit c) false (not (is_whitespace c))) cs

-- why a row is not read: its first stranger is named, or memory ran out
abbrev pub Unread : List ℕ → Fault → Type 0
Unread cs Memory = Unit {0}
Unread cs (NotBit c) = stranger cs ≡ Some c
Unread cs e = ⊥
