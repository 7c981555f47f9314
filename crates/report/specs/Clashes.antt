-- What is said of two patterns that clash, as bytes. The code has the column values cs and the data columns ds; p is the earlier pattern, and q the later one.
use Rattle.std.specs.Prelude.{ℕ, cond, List, ◌∷◌, ◌++◌, length, codes, decimal, ◌==◌}
use Rattle.code.specs.Codes.{rows}
use Rattle.code.specs.declared.refusal.Clash.{Clash}
use Rattle.picture.specs.Drawn.{value_drawn}
use Rattle.picture.specs.Marked.{marked}
use Rattle.report.specs.Syndrome.{syndrome_drawn}

-- the number of the refusal, and both patterns
abbrev pub clash_line : ℕ → Clash → List ℕ
clash_line number c = codes "refused " ++ (decimal number ++ (codes ": p = " ++ (decimal c.earlier ++ (codes " and q = " ++ (decimal c.later ++ codes " clash")))))

-- the matrix with the columns marked that the patterns strike
abbrev pub pictured_clash : List ℕ → List ℕ → Clash → List ℕ
pictured_clash cs ds c = marked cs ds (rows cs ds) c.earlier c.later

-- the empty pattern is no error; any other that comes earlier is to be corrected
abbrev pub earlier_duty : ℕ → List ℕ
earlier_duty p = cond (p == 0) (codes "no error") (codes "to be corrected")

-- what is asked for both patterns, and the syndrome that they have in common
abbrev pub duties_line : List ℕ → List ℕ → List ℕ → Clash → List ℕ
duties_line cs ds duty c = codes "p is " ++ (earlier_duty c.earlier ++ (codes ", q is to be " ++ (duty ++ (codes ", and both have the syndrome " ++ syndrome_drawn cs ds c.earlier))))

-- the two data words that reach one received word, which is p itself
abbrev pub collision_line : List ℕ → List ℕ → Clash → List ℕ
collision_line cs ds c =
    codes "data word " ++ (value_drawn (codes "bits") (length ds) c.first
    ++ (codes " struck by p and data word " ++ (value_drawn (codes "bits") (length ds) c.second
    ++ (codes " struck by q are both received as " ++ value_drawn (codes "columns") (length cs) c.earlier))))

-- all that is said: the later pattern is to be `duty`, as corrected or flagged
abbrev pub clash_text : List ℕ → List ℕ → ℕ → List ℕ → Clash → List ℕ
clash_text cs ds number duty c = clash_line number c ++ (10 ∷ (pictured_clash cs ds c ++ (10 ∷ (duties_line cs ds duty c ++ (10 ∷ collision_line cs ds c)))))
