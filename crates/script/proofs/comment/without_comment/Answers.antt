use Rattle.std.proofs.Common.{not, eqb, append-nil, Option, Some, None, Bor, ◌≡◌, ℕ, suc, ◌<◌, Bool, cond, List, [], ◌∷◌, ◌++◌, length, get_or, sym, refl, ap, ◌∙◌, suc-le-suc, zero-le, lit<, ne_eqb, rules}
use Rattle.std.proofs.lemmas.List.Sums.{take_while-cons}
use Rattle.std.specs.Option.{MatchOption}
use Rattle.std.proofs.lemmas.Str.Pattern.{IsSplitOnceResult, split_parts}
use Rattle.script.specs.Comments.{uncommented}
use Rattle.script.proofs.comment.without_comment.Goals as goal

-- before the first number sign nothing is cut off
kept : (bs rest : List ℕ) → ((i : ℕ) → i < length bs → get_or bs i 0 ≡ 35 → ⊥) → uncommented (bs ++ rest) ≡ bs ++ uncommented rest
kept [] rest h = refl
kept (b ∷ bs) rest h =
    take_while-cons (λ x. not (eqb x 35)) b (bs ++ rest) ∙ (ap (λ (t : Bool). cond (not t) (b ∷ uncommented (bs ++ rest)) []) (ne_eqb b 35 (h 0 (suc-le-suc zero-le))) ∙ ap (λ (l : List ℕ). b ∷ l) (kept bs rest (λ i l. h (suc i) (suc-le-suc l))))

-- what stands before the first number sign, or all of it where there is none
told : (bs : List ℕ) (r : Option (Bor (List ℕ) × Bor (List ℕ))) → IsSplitOnceResult 35 bs r → MatchOption r (bs ≡ uncommented bs) (λ x. x.0.now ≡ uncommented bs)
told bs None h = sym (ap uncommented (sym (append-nil bs)) ∙ (kept bs [] (split_parts 35 bs None h (lit< tt)) ∙ append-nil bs))
told bs (Some x) h =
    let p = split_parts 35 bs (Some x) h (lit< tt) in
    sym (ap uncommented p.0 ∙ (kept x.0.now (35 ∷ x.1.now) p.1 ∙ append-nil x.0.now))

pub returns : goal.returns
returns c =
    let t = told c.args.line.now c.split_once.result c.split_once.ensures.cases in
    search (rules, t)
