use Rattle.std.proofs.Common.{◌≡◌, ℕ, List, ◌∷◌, Ok, string_bytes, codes, refl, sym, ap, ◌∙◌, append-nil}
use Rattle.picture.specs.Pictured.{label, number_line}
use Rattle.picture.proofs.Cells.{line_more, numbers_shown, right_number}
use Rattle.picture.proofs.table.Table.lines.Goals as goal

pub loop-i-init : goal.loop-i-init
unfolding label
loop-i-init g c text made =
    let w : ℕ = c.args.self.width in
    c.in_ok-text.ensures (right_number w) (λ n. refl) ∙ (numbers_shown (codes "column") (codes "column") w c.args.numbers.now _ refl refl ∙ sym (append-nil (number_line (codes "column") w c.args.numbers.now)))

pub loop-i-preserved : goal.loop-i-preserved
loop-i-preserved g c text made =
    let was : List ℕ = string_bytes c.loop-i.text in
    let next : string_bytes c.in_ok-next.next ≡ text c.loop-i.i = made c.loop-i.i (Ok c.in_ok-next.next) c.in_ok-next.ensures in
    line_more (λ i. 10 ∷ text i) (number_line (codes "column") c.args.self.width c.args.numbers.now) was (10 ∷ string_bytes c.in_ok-next.next) (string_bytes c.write.new.self) c.loop-i.i c.in_ok-write.ensures.bytes (ap (λ (l : List ℕ). 10 ∷ l) next) (c.loop-i.invariant text made)
