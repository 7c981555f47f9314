-- What is said of the errors that are named for a design, as bytes.
use Rattle.std.specs.Prelude.{ℕ, Bool, cond, List, ◌∷◌, ◌++◌, length, take, codes, decimal}
use Rattle.std.specs.List.{flat_map}
use Rattle.code.specs.Meaning.{columns_of}
use Rattle.code.specs.Search.{among}
use Rattle.listings.specs.declared.item.Item.{Item}
use Rattle.listings.specs.Items.{item_name}
use Rattle.classes.specs.Duties.{detectable}
use Rattle.classes.specs.Meaning.{items_of, patterns_of}
use Rattle.picture.specs.Nouns.{counted}
use Rattle.picture.specs.Patterned.{patterned}
use Rattle.design.specs.Meaning.{class_of, code_of}
use Rattle.design.specs.declared.design.Design.{Design}
use Rattle.design.specs.declared.duty.Duty.{Duty}
use Rattle.design.specs.declared.duty.Duty.TheVariants.{Correct, Detect}

abbrev pub duty_name : Duty → List ℕ
duty_name Correct = codes "correct"
duty_name Detect = codes "detect"

-- a name, and how many patterns there are of it
abbrev pub count_line : List ℕ → ℕ → List ℕ
count_line name count = name ++ (codes ": " ++ counted count (codes "pattern") (codes "patterns"))

-- how many patterns are listed for a duty
abbrev pub class_text : Design → Duty → List ℕ
class_text d duty = count_line (duty_name duty) (length (patterns_of (class_of d duty)))

-- an item, set in by two blanks
abbrev pub item_text : Item → List ℕ
item_text item = codes "  " ++ item_name item

-- a line for each item, each on a new line
abbrev pub item_lines : List Item → List ℕ
item_lines items = flat_map (λ item. 10 ∷ item_text item) items

-- a class and its items
abbrev pub section_text : Design → Duty → List ℕ
section_text d duty = class_text d duty ++ item_lines (items_of (class_of d duty))

-- the patterns to flag that are not to be corrected
abbrev pub detectable_of : Design → List ℕ
detectable_of d = detectable (patterns_of (class_of d Correct)) (patterns_of (class_of d Detect))

-- both classes, and how many patterns are detectable
abbrev pub classes_text : Design → List ℕ
classes_text d = section_text d Correct ++ (10 ∷ (section_text d Detect ++ (10 ∷ count_line (codes "detectable") (length (detectable_of d)))))

-- the first patterns for a duty, as many as the limit
abbrev pub list_text : Design → Duty → ℕ → List ℕ
list_text d duty most = patterned (take most (patterns_of (class_of d duty))) (length (columns_of (code_of d)))

abbrev pub yes_or_no : Bool → List ℕ
yes_or_no answer = cond answer (codes "yes") (codes "no")

abbrev pub belongs_text : Design → Duty → ℕ → List ℕ
belongs_text d duty mask = codes "belongs " ++ (duty_name duty ++ (codes " " ++ (decimal mask ++ (codes ": " ++ yes_or_no (among (patterns_of (class_of d duty)) mask)))))
