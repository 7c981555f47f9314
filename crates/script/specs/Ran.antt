-- What a line of a script does to a session, whatever it says, and the text that answers it.
use Rattle.std.specs.Prelude.{◌≡◌, ℕ, Bool, true, false, ◌⊎◌, List, [], ◌++◌, Some, None, vec_items, codes, decimal, Option, ◌==◌}
use Rattle.code.specs.Codes.{rows}
use Rattle.code.specs.Opening.{refusal}
use Rattle.code.specs.declared.refusal.Refusal.{Refusal}
use Rattle.design.specs.declared.design.Design.{Design}
use Rattle.script.specs.Performed.{Begins, Performed}
use Rattle.script.specs.Replies.{opened_text, Says}
use Rattle.script.specs.Stacked.{Stacks}
use Rattle.script.specs.declared.command.Command.{Command}
use Rattle.script.specs.declared.drawing.Drawing.{Drawing}

-- a drawing with one row more
abbrev pub Taller : Drawing → Drawing → Type 0
Taller d d' = (row : List Bool) × Stacks d.rows (vec_items d.values) row d'.rows (vec_items d'.values) × (d'.since ≡ d.since)

-- a drawing of the column values cs opens a code if nothing is refused and it has as many rows as check columns; otherwise the design stays as it was
abbrev pub ClosesBy : Option Refusal → Bool → Design → List ℕ → List ℕ → Design → List ℕ → Type 0
ClosesBy None fits design cs ds design' text = elim fits [ true ↦ Begins cs ds design' × (text ≡ opened_text cs ds) | false ↦ design' ≡ design ]
ClosesBy (Some e) fits design cs ds design' text = (design' ≡ design) × Says e text

abbrev pub Closes : Design → Drawing → List ℕ → Design → List ℕ → Type 0
Closes design d ds design' text = let cs = vec_items d.values in ClosesBy (refusal cs ds) (d.rows == rows cs ds) design cs ds design' text

-- while the drawing d is open: some data columns end it, or it stays or has one row more and nothing is said
abbrev pub Stroked : Design → Drawing → Design → Option Drawing → List ℕ → Type 0
Stroked design d design' None text = (ds : List ℕ) × Closes design d ds design' text
Stroked design d design' (Some d') text = (design' ≡ design) × (text ≡ []) × ((d' ≡ d) ⊎ Taller d d')

-- with no drawing open, a line is some command, performed
abbrev pub Did : ℕ → Design → Option Drawing → Design → Option Drawing → List ℕ → Type 0
Did line design None design' drawing' text = (command : Command) × Performed line design None command design' drawing' text
Did line design (Some d) design' drawing' text = Stroked design d design' drawing' text

-- a line that cannot be read is named by its number, and changes nothing
abbrev pub Named : ℕ → Design → Option Drawing → Design → Option Drawing → List ℕ → Type 0
Named line design drawing design' drawing' text = (design' ≡ design) × (drawing' ≡ drawing) × ((what : List ℕ) × (text ≡ codes "line " ++ (decimal line ++ (codes ": " ++ what))))

abbrev pub Ran : ℕ → Design → Option Drawing → Design → Option Drawing → List ℕ → Type 0
Ran line design drawing design' drawing' text = Did line design drawing design' drawing' text ⊎ Named line design drawing design' drawing' text
