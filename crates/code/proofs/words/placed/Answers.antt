use Rattle.std.proofs.Common.{◌≡◌, ℕ, suc, ◌^◌, ◌<◌, [], ◌∷◌, List, length, map, get_or, refl, ap, ap₂, ◌∙◌, arith, rules}
use Rattle.std.proofs.lemmas.Bool.{lt-ltb, cond-true}
use Rattle.code.specs.Words.{combine, unit, weight}
use Rattle.code.proofs.words.placed.Goals as goal

-- columns of a word weigh what they are worth
weights : (js : List ℕ) → ((i : ℕ) → i < length js → get_or js i 0 < 64) → map weight js ≡ map unit js
weights [] h = refl
weights (j ∷ js) h = ap₂ ◌∷◌ (cond-true _ (2 ^ j) 0 (lt-ltb j 64 (h 0 (omega arith)))) (weights js (λ i l. h (suc i) (omega arith)))

pub returns : goal.returns
returns c = c.xor_of_ones.ensures weight (λ j r k. search rules) ∙ ap (λ vs. combine vs c.args.bits) (weights c.args.places.now c.requires.inside)
