-- What a design means: its code, and the classes of errors that are named for it. And what its calls answer.
use Rattle.std.specs.Prelude.{◌≡◌, ℕ, List, [], ◌∷◌, ◌++◌, length, Some, None, Ok, Err, Option, Result}
use Rattle.code.specs.Meaning.{columns_of}
use Rattle.code.specs.declared.code.Code.{Code}
use Rattle.code.specs.declared.refusal.Refusal.{Refusal}
use Rattle.listings.specs.declared.item.Item.{Item}
use Rattle.classes.specs.Meaning.{items_of, width_of}
use Rattle.classes.specs.Opening.{mixed_refusal}
use Rattle.classes.specs.declared.mixed.Mixed.{Mixed}
use Rattle.design.specs.declared.design.Design.{Design}
use Rattle.design.specs.declared.duty.Duty.{Duty}
use Rattle.design.specs.declared.duty.Duty.TheVariants.{Correct, Detect}

abbrev pub code_of : Design → Code
code_of d = d.code

abbrev pub class_of : Design → Duty → Mixed
class_of d Correct = d.first
class_of d Detect = d.second

-- what is named for the other duty
abbrev pub rest_of : Design → Duty → Mixed
rest_of d Correct = d.second
rest_of d Detect = d.first

-- a class of n columns in which these items are named, and no others
abbrev pub Names : ℕ → List Item → Mixed → Type 0
Names n items class = (width_of class ≡ n) × (items_of class ≡ items)

-- a design of this code in which no errors are named
abbrev pub Begun : Code → Design → Type 0
Begun code d = (code_of d ≡ code) × Names (length (columns_of code)) [] (class_of d Correct) × Names (length (columns_of code)) [] (class_of d Detect)

-- the items for a duty, with one more at the end
abbrev pub more_items : Design → Duty → Item → List Item
more_items d duty item = items_of (class_of d duty) ++ (item ∷ [])

-- why an item is not named for a duty
abbrev pub item_refused : Design → Duty → Item → Option Refusal
item_refused d duty item = mixed_refusal (width_of (class_of d duty)) (more_items d duty item)

-- d' is d with one item more for a duty: the code and the other class are as they were
abbrev pub Gains : Design → Duty → Item → Design → Type 0
Gains d duty item d' = (code_of d' ≡ code_of d) × Names (width_of (class_of d duty)) (more_items d duty item) (class_of d' duty) × (rest_of d' duty ≡ rest_of d duty)

abbrev pub Named : Design → Duty → Item → Result Design Refusal → Type 0
Named d duty item (Ok d') = (item_refused d duty item ≡ None) × Gains d duty item d'
Named d duty item (Err e) = item_refused d duty item ≡ Some e
