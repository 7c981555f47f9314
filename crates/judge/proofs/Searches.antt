-- The search for the first clash, one candidate at a time.
use Rattle.std.proofs.Common.{◌≡◌, ℕ, ◌+◌, ◌<◌, ◌≢◌, min, Bool, true, false, List, ◌∷◌, length, get_or, sym, ap, ◌∙◌, subst, inl, inr, arith}
use Rattle.std.proofs.lemmas.Bool.{cases_order}
use Rattle.code.specs.Codes.{syndrome}
use Rattle.judge.specs.LineUp.{Alike, Clashes, EmptyOrCorrectable, FirstPair, line_up}
use Rattle.judge.proofs.Lines.{Next, candidates, front_at, front_forgiven, met_before, next_place, placed, placed_most, same_place, stands}

-- no place below b clashes with an earlier one
abbrev pub Quiet : List ℕ → List ℕ → List ℕ → ℕ → Type 0
Quiet cs ps qs b = (e l : ℕ) → l < b → Clashes cs ps qs e l → ⊥

-- none of the first b patterns of the front is alike q
abbrev pub Alone : List ℕ → List ℕ → ℕ → ℕ → Type 0
Alone cs ps q b = (e : ℕ) → e < b → Alike cs (get_or (0 ∷ ps) e 0) q → ⊥

quiet_more : (cs ps qs : List ℕ) (b : ℕ) → Quiet cs ps qs b → ((e : ℕ) → e < b → EmptyOrCorrectable ps (get_or (line_up ps qs) e 0) → Alike cs (get_or (line_up ps qs) e 0) (get_or (line_up ps qs) b 0) → ⊥)
    → Quiet cs ps qs (b + 1)
quiet_more cs ps qs b quiet here e l h c = elim (cases_order l b) [
  | inl s ↦ (let k = subst (λ x. Clashes cs ps qs e x) s c in here e k.0 k.3 k.2)
  | inr o ↦ elim o [ inl k ↦ quiet e l k c | inr k ↦ absurd (omega arith) ]
]

alike_moved : (cs : List ℕ) (p p' q q' : ℕ) → p ≡ p' → q ≡ q' → Alike cs p q → Alike cs p' q'
alike_moved cs p p' q q' a b k = ((λ z. k.0 (a ∙ (z ∙ sym b))), ap (syndrome cs) (sym a) ∙ (k.1 ∙ ap (syndrome cs) b))

-- the candidate q with the number j, and the answer to whether it stands in the line-up
module _ (ps qs : List ℕ) (j q : ℕ) (asked : Bool) (bound : j < length ps + 1 + length qs) (here : q ≡ get_or (candidates ps qs) j 0) (answer : asked ≡ stands ps j q) where
  pub left_out : asked ≡ false → placed ps qs (j + 1) ≡ placed ps qs j
  left_out out = same_place ps qs j bound (subst (λ x. stands ps j x ≡ false) here (sym answer ∙ out))

  next : asked ≡ true → Next ps qs j
  next stands_here = next_place ps qs j bound (subst (λ x. stands ps j x ≡ true) here (sym answer ∙ stands_here))

  pub one_more : (places : ℕ) → asked ≡ true → places ≡ placed ps qs j → places + 1 ≡ placed ps qs (j + 1)
  one_more places stands_here counted = let k = (next stands_here).2 in omega arith

  -- q stands at the next place, and so far nothing clashes
  module _ (cs : List ℕ) (places : ℕ) (stands_here : asked ≡ true) (counted : places ≡ placed ps qs j) (quiet : Quiet cs ps qs places) where
    at : get_or (line_up ps qs) places 0 ≡ q
    at = ap (λ x. get_or (line_up ps qs) x 0) counted ∙ ((next stands_here).0 ∙ sym here)

    -- q clashes with nothing before it
    pub turn_quiet : Alone cs ps q (min j (length ps + 1)) → Quiet cs ps qs (places + 1)
    turn_quiet alone = quiet_more cs ps qs places quiet (λ e h f k.
        let m = met_before ps qs j e (omega arith) f in
        alone m.0 m.1 (alike_moved cs _ _ _ _ (sym m.2) at k))

    -- q clashes with the pattern p at the place e of the front, and with none before that; s and t are their syndromes
    pub first_pair : (e p s t : ℕ) → e < min j (length ps + 1) → p ≡ get_or (0 ∷ ps) e 0 → p ≢ q → s ≡ syndrome cs q → t ≡ syndrome cs p → t ≡ s → Alone cs ps q e → FirstPair cs ps qs p q
    first_pair e p s t h p-is apart s-is t-is same alone =
        let inside : e < length ps + 1 = omega arith in
        let front : get_or (line_up ps qs) e 0 ≡ get_or (0 ∷ ps) e 0 = front_at ps _ e inside in
        let most = placed_most ps qs j in
        let there = (next stands_here).1 in
        let alike : Alike cs p q = (apart, sym t-is ∙ (same ∙ s-is)) in (
          e,
          places,
          (
            (omega arith, omega arith, alike_moved cs _ _ _ _ (p-is ∙ sym front) (sym at) alike, subst (EmptyOrCorrectable ps) (sym front) (front_forgiven ps e inside)),
            quiet,
            (λ e' b c. alone e' b (alike_moved cs _ _ _ _ (front_at ps _ e' (omega arith)) at c.2)),
          ),
          front ∙ sym p-is,
          at,
        )
