-- The places of the line-up, as a walk over the empty pattern and both classes meets them. The first class lists ps, the second qs.
use Rattle.std.proofs.Common.{◌≡◌, ℕ, zero, suc, ◌+◌, ◌-◌, ◌^◌, ◌<◌, ◌≤◌, min, Bool, true, false, cond, not, ◌||◌, ltb, List, ◌∷◌, ◌++◌, length, get_or, take, drop, filter, sym, refl, ap, ◌∙◌, subst, inl, inr, arith}
use Rattle.std.proofs.lemmas.Nat.{pow_pos}
use Rattle.std.proofs.lemmas.List.Elements.{filter-append}
use Rattle.std.proofs.lemmas.List.Filters.{length-filter_both, length-filter_more}
use Rattle.std.proofs.lemmas.List.{drop_more, get_or-append-add, get_or_append_left, get_or_at, length-append, length-take, take-append-drop}
use Rattle.std.proofs.lemmas.Bool.{both_ways, cases_lt, lt-ltb, ltb-true, not-true, not-false, or_cases, or_parts}
use Rattle.code.specs.Search.{among}
use Rattle.code.proofs.Members.{among_at, place_of}
use Rattle.listings.specs.Lawful.{Patterns}
use Rattle.classes.specs.Duties.{detectable}
use Rattle.judge.specs.LineUp.{EmptyOrCorrectable, line_up}

-- the empty pattern, then both classes whole
abbrev pub candidates : List ℕ → List ℕ → List ℕ
candidates ps qs = 0 ∷ (ps ++ qs)

-- how many places of the line-up the first j candidates fill
abbrev pub placed : List ℕ → List ℕ → ℕ → ℕ
placed ps qs j = min j (length ps + 1) + length (detectable ps (take (j - (length ps + 1)) qs))

-- whether the candidate q with the number j stands in the line-up
abbrev pub stands : List ℕ → ℕ → ℕ → Bool
stands ps j q = ltb j (length ps + 1) || not (among ps q)

-- what follows the first class does not matter for its places
pub front_at : (ps ys : List ℕ) (e : ℕ) → e < length ps + 1 → get_or (0 ∷ (ps ++ ys)) e 0 ≡ get_or (0 ∷ ps) e 0
front_at ps ys zero h = refl
front_at ps ys (suc e) h = get_or_append_left ps ys 0 e (omega arith)

-- what follows the empty pattern and the first class, by its number
pub back_at : (ps ys : List ℕ) (i : ℕ) → get_or (0 ∷ (ps ++ ys)) (length ps + 1 + i) 0 ≡ get_or ys i 0
back_at ps ys i =
    let s : length ps + 1 + i ≡ suc (length ps + i) = omega arith in
    ap (λ x. get_or (0 ∷ (ps ++ ys)) x 0) s ∙ get_or-append-add ps ys i 0

-- a candidate behind the first class, by its number
pub candidate_back : (ps qs : List ℕ) (j : ℕ) → length ps + 1 ≤ j → get_or (candidates ps qs) j 0 ≡ get_or qs (j - (length ps + 1)) 0
candidate_back ps qs j h =
    let s : j ≡ length ps + 1 + (j - (length ps + 1)) = omega arith in
    ap (λ x. get_or (candidates ps qs) x 0) s ∙ back_at ps qs (j - (length ps + 1))

pub front_forgiven : (ps : List ℕ) (e : ℕ) → e < length ps + 1 → EmptyOrCorrectable ps (get_or (0 ∷ ps) e 0)
front_forgiven ps zero h = inl refl
front_forgiven ps (suc e) h = inr (among_at ps e (omega arith))

-- an empty or correctable pattern has a place in the front
pub forgiven_place : (ps : List ℕ) (p : ℕ) → EmptyOrCorrectable ps p → (e : ℕ) × (e < length ps + 1) × (get_or (0 ∷ ps) e 0 ≡ p)
forgiven_place ps p (inl z) = (0, omega arith, sym z)
forgiven_place ps p (inr a) = let k = place_of ps p a in (suc k.0, omega (arith, k.1), k.2)

pub front_below : (n : ℕ) (ps : List ℕ) (e : ℕ) → Patterns n ps → e < length ps + 1 → get_or (0 ∷ ps) e 0 < 2 ^ n
front_below n ps zero each h = pow_pos n
front_below n ps (suc e) each h = (each (get_or ps e 0) (among_at ps e (omega arith))).1

pub candidate_below : (n : ℕ) (ps qs : List ℕ) (j : ℕ) → Patterns n ps → Patterns n qs → j < length ps + 1 + length qs → get_or (candidates ps qs) j 0 < 2 ^ n
candidate_below n ps qs j each each₂ h = elim (cases_lt j (length ps + 1)) [
  | inl l ↦ subst (λ p. p < 2 ^ n) (sym (front_at ps qs j l)) (front_below n ps j each l)
  | inr l ↦ subst (λ p. p < 2 ^ n) (sym (candidate_back ps qs j l)) (each₂ (get_or qs (j - (length ps + 1)) 0) (among_at qs (j - (length ps + 1)) (omega arith))).1
]

module _ (ps qs : List ℕ) where
  pub line_length : length (line_up ps qs) ≡ length ps + 1 + length (detectable ps qs)
  line_length = let e = length-append ps (detectable ps qs) in omega arith

  placed_front : (j : ℕ) → j ≤ length ps + 1 → placed ps qs j ≡ j
  placed_front j h =
      let z : j - (length ps + 1) ≡ 0 = omega arith in
      let e : length (detectable ps (take (j - (length ps + 1)) qs)) ≡ 0 = ap (λ i. length (detectable ps (take i qs))) z in
      omega arith

  -- at least the places of the front are filled
  pub placed_most : (j : ℕ) → min j (length ps + 1) ≤ placed ps qs j
  placed_most j = omega arith

  -- one candidate more of the second class
  more_back : (j : ℕ) → length ps + 1 ≤ j → j < length ps + 1 + length qs
      → placed ps qs (j + 1) ≡ placed ps qs j + cond (not (among ps (get_or (candidates ps qs) j 0))) 1 0
  more_back j h b =
      let i : ℕ = j - (length ps + 1) in
      let s : j + 1 - (length ps + 1) ≡ i + 1 = omega arith in
      let more = length-filter_more (λ q. not (among ps q)) qs i 0 (omega arith) in
      let e : length (detectable ps (take (j + 1 - (length ps + 1)) qs)) ≡ length (detectable ps (take i qs)) + cond (not (among ps (get_or (candidates ps qs) j 0))) 1 0 =
      ap (λ k. length (detectable ps (take k qs))) s ∙ (more ∙ ap (λ q. length (detectable ps (take i qs)) + cond (not (among ps q)) 1 0) (sym (candidate_back ps qs j h))) in
      omega arith

  -- a pattern of the second class that is not in the first stands in the line-up
  at_back : (j : ℕ) → length ps + 1 ≤ j → j < length ps + 1 + length qs → among ps (get_or (candidates ps qs) j 0) ≡ false
      → (get_or (line_up ps qs) (placed ps qs j) 0 ≡ get_or (candidates ps qs) j 0) × (placed ps qs j < length (line_up ps qs))
  at_back j h b out =
      let i : ℕ = j - (length ps + 1) in
      let q : ℕ = get_or qs i 0 in
      let test : ℕ → Bool = λ x. not (among ps x) in
      let is : get_or (candidates ps qs) j 0 ≡ q = candidate_back ps qs j h in
      let kept : filter test (q ∷ drop (i + 1) qs) ≡ q ∷ filter test (drop (i + 1) qs) = ap (λ x. cond (not x) (q ∷ filter test (drop (i + 1) qs)) (filter test (drop (i + 1) qs))) (ap (among ps) (sym is) ∙ out) in
      let split : detectable ps qs ≡ detectable ps (take i qs) ++ (q ∷ detectable ps (drop (i + 1) qs)) =
      ap (detectable ps) (sym (take-append-drop i qs) ∙ ap (λ l. take i qs ++ l) (drop_more qs i 0 (omega arith))) ∙ (filter-append test (take i qs) (q ∷ drop (i + 1) qs) ∙ ap (λ l. detectable ps (take i qs) ++ l) kept) in
      let at : placed ps qs j ≡ length ps + 1 + length (detectable ps (take i qs)) = omega arith in
      let long = ap length split in
      let parts = length-append (detectable ps (take i qs)) (q ∷ detectable ps (drop (i + 1) qs)) in
      let l = line_length in (
        ap (λ x. get_or (line_up ps qs) x 0) at ∙ (back_at ps (detectable ps qs) (length (detectable ps (take i qs))) ∙ (ap (λ l. get_or l (length (detectable ps (take i qs))) 0) split ∙ (get_or_at (detectable ps (take i qs)) q (detectable ps (drop (i + 1) qs)) 0 (length (detectable ps (take i qs))) refl ∙ sym is))),
        omega arith,
      )

  -- the candidate j stands in the line-up, at the next place
  abbrev pub Next : ℕ → Type 0
  Next j = (get_or (line_up ps qs) (placed ps qs j) 0 ≡ get_or (candidates ps qs) j 0) × (placed ps qs j < length (line_up ps qs)) × (placed ps qs (j + 1) ≡ placed ps qs j + 1)

  pub next_place : (j : ℕ) → j < length ps + 1 + length qs → stands ps j (get_or (candidates ps qs) j 0) ≡ true → Next j
  next_place j b e = elim (cases_lt j (length ps + 1)) [
    | inl l ↦
        (let here : placed ps qs j ≡ j = placed_front j (omega arith) in
        let there : placed ps qs (j + 1) ≡ j + 1 = placed_front (j + 1) (omega arith) in
        let long = line_length in
        (ap (λ x. get_or (line_up ps qs) x 0) here ∙ (front_at ps (detectable ps qs) j l ∙ sym (front_at ps qs j l)), omega arith, omega arith))
    | inr l ↦
        (let out : among ps (get_or (candidates ps qs) j 0) ≡ false = elim (or_cases (ltb j (length ps + 1)) (not (among ps (get_or (candidates ps qs) j 0))) e) [
          | inl t ↦ absurd (let k = ltb-true j (length ps + 1) t in omega arith)
          | inr t ↦ not-true (among ps (get_or (candidates ps qs) j 0)) t
        ] in
        let k = at_back j l b out in
        let more = more_back j l b ∙ ap (λ x. placed ps qs j + cond (not x) 1 0) out in
        (k.0, k.1, more))
  ]

  -- the candidate j is left out
  pub same_place : (j : ℕ) → j < length ps + 1 + length qs → stands ps j (get_or (candidates ps qs) j 0) ≡ false → placed ps qs (j + 1) ≡ placed ps qs j
  same_place j b e =
      let k = or_parts (ltb j (length ps + 1)) (not (among ps (get_or (candidates ps qs) j 0))) e in
      elim (cases_lt j (length ps + 1)) [
        | inl l ↦ absurd (both_ways (ltb j (length ps + 1)) k.0 (lt-ltb j (length ps + 1) l))
        | inr l ↦
            (let in-first : among ps (get_or (candidates ps qs) j 0) ≡ true = not-false (among ps (get_or (candidates ps qs) j 0)) k.1 in
            let more = more_back j l b ∙ ap (λ x. placed ps qs j + cond (not x) 1 0) in-first in
            omega arith)
      ]

  -- an empty or correctable pattern at a place before is met in the front
  pub met_before : (j e : ℕ) → e < placed ps qs j → EmptyOrCorrectable ps (get_or (line_up ps qs) e 0)
      → (e' : ℕ) × (e' < min j (length ps + 1)) × (get_or (0 ∷ ps) e' 0 ≡ get_or (line_up ps qs) e 0)
  met_before j e h f = elim (cases_lt e (min j (length ps + 1))) [
    | inl l ↦ (e, l, sym (front_at ps (detectable ps qs) e (omega arith)))
    | inr l ↦ elim (cases_lt (length ps + 1) j) [
      | inl b ↦ (let k = forgiven_place ps (get_or (line_up ps qs) e 0) f in (k.0, omega (arith, k.1), k.2))
      | inr b ↦ absurd (let here = placed_front j b in omega arith)
    ]
  ]

  -- no more places are filled than candidates were met
  pub placed_few : (j : ℕ) → placed ps qs j ≤ j
  placed_few j =
      let rest : List ℕ = take (j - (length ps + 1)) qs in
      let both = length-filter_both (λ q. not (among ps q)) (among ps) (λ q. sym (not_not (among ps q))) rest in
      let most = length-take (j - (length ps + 1)) qs in
      omega arith
    where
      not_not : (b : Bool) → not (not b) ≡ b
      not_not true = refl
      not_not false = refl
