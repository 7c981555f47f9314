use Rattle.std.proofs.Common.{◌≡◌, ℕ, List, ◌∷◌, ◌++◌, IfOk, string_bytes, subst, rules}
use Rattle.code.specs.Meaning.{columns_of, data_of}
use Rattle.report.specs.Clashes.{clash_line, collision_line, duties_line, pictured_clash}
use Rattle.report.proofs.clash.clash_text.Goals as goal

four : (a a' b b' c c' d d' : List ℕ) → a ≡ a' → b ≡ b' → c ≡ c' → d ≡ d' → a ++ (10 ∷ (b ++ (10 ∷ (c ++ (10 ∷ d))))) ≡ a' ++ (10 ∷ (b' ++ (10 ∷ (c' ++ (10 ∷ d')))))
four a a' b b' c c' d d' e f g h = cc

pub returns : goal.returns
returns c =
    let cs : List ℕ = columns_of c.args.code.now in
    let ds : List ℕ = data_of c.args.code.now in
    let made : IfOk c.format.result (λ t. string_bytes t ≡ string_bytes c.in_ok-head.head ++ (10 ∷ (string_bytes c.in_ok-picture.picture ++ (10 ∷ (string_bytes c.in_ok-duties.duties ++ (10 ∷ string_bytes c.in_ok-collision.collision)))))) = search rules in
    let head : string_bytes c.in_ok-head.head ≡ clash_line c.args.number c.args.clash = c.in_ok-head.ensures in
    let picture : string_bytes c.in_ok-picture.picture ≡ pictured_clash cs ds c.args.clash = c.in_ok-picture.ensures in
    let duties : string_bytes c.in_ok-duties.duties ≡ duties_line cs ds c.args.duty.now c.args.clash = c.in_ok-duties.ensures in
    let collision : string_bytes c.in_ok-collision.collision ≡ collision_line cs ds c.args.clash = c.in_ok-collision.ensures in
    subst (λ (l : List ℕ). IfOk c.format.result (λ t. string_bytes t ≡ l)) (four _ _ _ _ _ _ _ _ head picture duties collision) made
