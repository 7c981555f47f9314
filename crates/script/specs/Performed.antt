-- What a command does to a session, and the text that answers it.
use Rattle.std.specs.Prelude.{◌≡◌, ℕ, List, [], Some, None, vec_items, Option}
use Rattle.code.specs.Meaning.{columns_of, data_of}
use Rattle.code.specs.Opening.{refusal}
use Rattle.code.specs.declared.refusal.Refusal.{Refusal}
use Rattle.listings.specs.declared.item.Item.{Item}
use Rattle.classes.specs.Meaning.{items_of}
use Rattle.design.specs.Meaning.{Gains, class_of, code_of, item_refused}
use Rattle.design.specs.Texts.{belongs_text, class_text, classes_text, list_text}
use Rattle.design.specs.declared.design.Design.{Design}
use Rattle.design.specs.declared.duty.Duty.{Duty}
use Rattle.design.specs.declared.duty.Duty.TheVariants.{Correct, Detect}
use Rattle.report.specs.Decoded.{decoded_text}
use Rattle.report.specs.Tables.{table_text}
use Rattle.report.specs.Verdicts.{verdict_text}
use Rattle.script.specs.Replies.{encode_text, syndrome_text, data_text, show_text, opened_text, Says}
use Rattle.script.specs.declared.command.Command.{Command}
use Rattle.script.specs.declared.command.Command.TheVariants.{Nothing, Matrix, Open, Show, Encode, Syndrome, Data, Name, Classes, Patterns, Belongs, Judge, Decode, Table}
use Rattle.script.specs.declared.drawing.Drawing.{Drawing}

-- a drawing with no row, begun at this line
abbrev pub Blank : ℕ → Option Drawing → Type 0
Blank line None = ⊥
Blank line (Some d) = (d.since ≡ line) × (d.rows ≡ 0) × (vec_items d.values ≡ [])

-- a design of the code with these columns, and no errors named
abbrev pub Begins : List ℕ → List ℕ → Design → Type 0
Begins cs ds design = (columns_of (code_of design) ≡ cs) × (data_of (code_of design) ≡ ds) × (items_of (class_of design Correct) ≡ []) × (items_of (class_of design Detect) ≡ [])

-- where nothing is refused the code has these columns from now on, and no errors are named for it; a refusal is named by its number, and the design stays as it was
abbrev pub OpensBy : Option Refusal → Design → List ℕ → List ℕ → Design → List ℕ → Type 0
OpensBy None design cs ds design' text = Begins cs ds design' × (text ≡ opened_text cs ds)
OpensBy (Some e) design cs ds design' text = (design' ≡ design) × Says e text

abbrev pub Opens : Design → List ℕ → List ℕ → Design → List ℕ → Type 0
Opens design cs ds design' text = OpensBy (refusal cs ds) design cs ds design' text

-- where nothing is refused the item is named for the duty, and the class is counted
abbrev pub EntersBy : Option Refusal → Design → Duty → Item → Design → List ℕ → Type 0
EntersBy None design duty item design' text = Gains design duty item design' × (text ≡ class_text design' duty)
EntersBy (Some e) design duty item design' text = (design' ≡ design) × Says e text

abbrev pub Enters : Design → Duty → Item → Design → List ℕ → Type 0
Enters design duty item design' text = EntersBy (item_refused design duty item) design duty item design' text

-- the session is as it was, and the text is this one
abbrev pub Tells : Design → Option Drawing → Design → Option Drawing → List ℕ → List ℕ → Type 0
Tells design drawing design' drawing' text this = (design' ≡ design) × (drawing' ≡ drawing) × (text ≡ this)

-- the same, with a text on the columns and the data columns of the code
abbrev pub TellsOf : (List ℕ → List ℕ → List ℕ) → Design → Option Drawing → Design → Option Drawing → List ℕ → Type 0
TellsOf this design drawing design' drawing' text = Tells design drawing design' drawing' text (this (columns_of (code_of design)) (data_of (code_of design)))

-- a command of line `line` takes a session from design and drawing to design' and drawing', and is answered by the text
abbrev pub Performed : ℕ → Design → Option Drawing → Command → Design → Option Drawing → List ℕ → Type 0
Performed line design drawing Nothing design' drawing' text = Tells design drawing design' drawing' text []
Performed line design drawing Matrix design' drawing' text = (design' ≡ design) × Blank line drawing' × (text ≡ [])
Performed line design drawing (Open values numbers) design' drawing' text = (drawing' ≡ drawing) × Opens design (vec_items values) (vec_items numbers) design' text
Performed line design drawing Show design' drawing' text = TellsOf show_text design drawing design' drawing' text
Performed line design drawing (Encode word) design' drawing' text = TellsOf (λ cs ds. encode_text cs ds word) design drawing design' drawing' text
Performed line design drawing (Syndrome word) design' drawing' text = TellsOf (λ cs ds. syndrome_text cs ds word) design drawing design' drawing' text
Performed line design drawing (Data word) design' drawing' text = TellsOf (λ cs ds. data_text cs ds word) design drawing design' drawing' text
Performed line design drawing (Name duty item) design' drawing' text = (drawing' ≡ drawing) × Enters design duty item design' text
Performed line design drawing Classes design' drawing' text = Tells design drawing design' drawing' text (classes_text design)
Performed line design drawing (Patterns duty most) design' drawing' text = Tells design drawing design' drawing' text (list_text design duty most)
Performed line design drawing (Belongs duty mask) design' drawing' text = Tells design drawing design' drawing' text (belongs_text design duty mask)
Performed line design drawing Judge design' drawing' text = Tells design drawing design' drawing' text (verdict_text design)
Performed line design drawing (Decode word) design' drawing' text = Tells design drawing design' drawing' text (decoded_text design word)
Performed line design drawing Table design' drawing' text = Tells design drawing design' drawing' text (table_text design)
