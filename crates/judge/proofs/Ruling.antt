-- A rule that does the duty exists exactly where no places of the line-up clash: decoding is one. The code has the column values cs and the data columns ds; the first class lists ps, the second qs, both of the code's width.
use Rattle.std.proofs.Common.{◌≡◌, ℕ, zero, suc, ◌+◌, ◌-◌, ◌^◌, ◌<◌, ◌≤◌, ◌≢◌, true, ◌⊎◌, List, ◌∷◌, ◌++◌, length, get_or, Some, None, Option, IfSome, sym, refl, ap, ◌∙◌, subst, inl, inr, arith, pow_pos}
use Rattle.std.proofs.lemmas.Bool.{both_ways, cases_eq, cases_lt, cases_order, eq-eqb, eqb-true}
use Rattle.std.proofs.lemmas.List.{get_or-append-add, get_or_append_left}
use Rattle.std.specs.Int.Bits.{bit_xor, xor_zero_l, xor_zero_r}
use Rattle.code.specs.Codes.{Wellformed, encoding, syndrome}
use Rattle.code.specs.Search.{among}
use Rattle.code.specs.Words.{gather}
use Rattle.code.proofs.Gathering.{gather_lt}
use Rattle.code.proofs.Members.{among_at, place_of}
use Rattle.listings.specs.Lawful.{Lawful, Pattern}
use Rattle.classes.specs.Duties.{detectable}
use Rattle.classes.proofs.Detecting.{detects}
use Rattle.judge.specs.Decoding.{leaves, taken, undone}
use Rattle.judge.specs.LineUp.{Accepted, Alike, Clashes, Correctable, Detectable, EmptyOrCorrectable, line_up}
use Rattle.judge.specs.Rules.{DecodingServes, Duty, GivesData, NoRule, by_decoding, data_word}
use Rattle.judge.specs.Verdicts.{Collides, shown}
use Rattle.judge.proofs.Finding.{found, unfound}
use Rattle.judge.proofs.Lines.{back_at, front_at, front_forgiven, line_length}
use Rattle.judge.proofs.Striking.{apart_encoded, encoding_zero, struck_data, struck_syndrome, xor_apart, xor_undo}

module _ (ps qs : List ℕ) (n : ℕ) (first : Lawful n ps) (second : Lawful n qs) where
  -- what stands behind the empty pattern is to be corrected or to be flagged, and it is a pattern
  pub later_kind : (l : ℕ) → 1 ≤ l → l < length (line_up ps qs)
      → (Correctable ps (get_or (line_up ps qs) l 0) ⊎ Detectable ps qs (get_or (line_up ps qs) l 0)) × Pattern n (get_or (line_up ps qs) l 0)
  later_kind zero a h = absurd (omega arith)
  later_kind (suc l) a h = elim (cases_lt l (length ps)) [
    | inl b ↦
        (let in_first : among ps (get_or (ps ++ detectable ps qs) l 0) ≡ true = subst (λ x. among ps x ≡ true) (sym (get_or_append_left ps (detectable ps qs) 0 l b)) (among_at ps l b) in
        (inl in_first, first.each _ in_first))
    | inr b ↦
        (let i : ℕ = l - length ps in
        let at : l ≡ length ps + i = omega arith in
        let long = line_length ps qs in
        let is : get_or (ps ++ detectable ps qs) l 0 ≡ get_or (detectable ps qs) i 0 = ap (λ x. get_or (ps ++ detectable ps qs) x 0) at ∙ get_or-append-add ps (detectable ps qs) i 0 in
        let listed : among (detectable ps qs) (get_or (ps ++ detectable ps qs) l 0) ≡ true = subst (λ x. among (detectable ps qs) x ≡ true) (sym is) (among_at (detectable ps qs) i (omega arith)) in
        let k = (detects n ps qs second (get_or (ps ++ detectable ps qs) l 0)).0 listed in
        (inr (k.0, k.1), k.2))
  ]

  pub place_below : (l : ℕ) → l < length (line_up ps qs) → get_or (line_up ps qs) l 0 < 2 ^ n
  place_below zero h = pow_pos n
  place_below (suc l) h = (later_kind (suc l) (omega arith) h).1.1

  -- where a pattern to flag stands
  pub detectable_place : (q : ℕ) → Detectable ps qs q → (l : ℕ) × (length ps + 1 ≤ l) × (l < length (line_up ps qs)) × (get_or (line_up ps qs) l 0 ≡ q)
  detectable_place q d =
      let listed : among (detectable ps qs) q ≡ true = (detects n ps qs second q).1 (d.0, d.1, second.each q d.0) in
      let k = place_of (detectable ps qs) q listed in
      let long = line_length ps qs in
      (length ps + 1 + k.0, omega arith, omega (arith, k.1), back_at ps (detectable ps qs) k.0 ∙ k.2)

-- a rule that gives two data words for one received word, or a word and a flag, gives nothing
one_answer : (a b : ℕ) (o : Option ℕ) → o ≡ Some a → o ≡ Some b → a ≡ b
one_answer a b o e f = cc

no_flag : (a : ℕ) (o : Option ℕ) → o ≡ Some a → o ≡ None → ⊥
no_flag a o e f = cc

module _ (cs ds ps qs : List ℕ) (good : Wellformed cs ds) (first : Lawful (length cs) ps) (second : Lawful (length cs) qs) where
  -- ---- a clash leaves no rule

  -- the data words 0 and the data bits of p xor q collide in the received word p
  pub collides : (p q : ℕ) → p < 2 ^ length cs → q < 2 ^ length cs → Alike cs p q → Collides cs ds (shown ds p q)
  collides p q a b alike =
      let x : ℕ = bit_xor p q in
      let coded : encoding cs ds (gather ds x) ≡ x = apart_encoded cs ds good p q a b alike.1 in
      let apart : 0 ≢ gather ds x = λ e. xor_apart p q alike.0 (sym coded ∙ (ap (encoding cs ds) (sym e) ∙ encoding_zero cs ds)) in (
        pow_pos (length ds),
        gather_lt ds x,
        apart,
        a,
        ap (λ w. bit_xor w p) (encoding_zero cs ds) ∙ xor_zero_l p,
        ap (λ w. bit_xor w q) coded ∙ xor_undo p q,
      )

  -- what a rule that does the duty gives for the received word p, as the data word 0 struck by p
  through_earlier : (answer : ℕ → Option ℕ) (p : ℕ) → Duty cs ds ps qs answer → EmptyOrCorrectable ps p → bit_xor (encoding cs ds 0) p ≡ p → answer p ≡ Some 0
  through_earlier answer p duty (inl z) e =
      ap answer (z ∙ sym (encoding_zero cs ds)) ∙ duty.clean 0 (pow_pos (length ds))
  through_earlier answer p duty (inr c) e = ap answer (sym e) ∙ duty.corrects 0 p (pow_pos (length ds)) c

  pub clash_bars : (e l : ℕ) → Clashes cs ps qs e l → NoRule cs ds ps qs
  clash_bars e l clash rule duty =
      let p : ℕ = get_or (line_up ps qs) e 0 in
      let q : ℕ = get_or (line_up ps qs) l 0 in
      let kind = later_kind ps qs (length cs) first second l (let h = clash.0 in omega arith) clash.1 in
      let below : p < 2 ^ length cs = place_below ps qs (length cs) first second e (let h = clash.0 in let k = clash.1 in omega arith) in
      let both = collides p q below kind.1.1 clash.2 in
      let d : ℕ = gather ds (bit_xor p q) in
      let here : rule.answer p ≡ Some 0 = through_earlier rule.answer p duty clash.3 both.4 in
      elim kind.0 [
        | inl c ↦ both.2 (one_answer 0 d (rule.answer p) here (ap rule.answer (sym both.5) ∙ duty.corrects d q both.1 c))
        | inr f ↦ no_flag 0 (rule.answer p) here (ap rule.answer (sym both.5) ∙ duty.flags d q both.1 f)
      ]

  -- ---- with no clash, decoding is a rule that does the duty

  pub gives_data : GivesData (length cs) (length ds) (by_decoding cs ds ps)
  gives_data w h = of (taken cs ps (syndrome cs w))
    where
      of : (o : Option ℕ) → IfSome (data_word (undone ds w o)) (λ d. d < 2 ^ length ds)
      of None = tt
      of (Some p) = gather_lt ds (bit_xor w p)

  module _ (quiet : Accepted cs ps qs) where
    -- a pattern of the front has no other pattern's syndrome before it
    first_of_kind : (i l : ℕ) → i < l → i < length ps + 1 → l < length (line_up ps qs) → syndrome cs (get_or (0 ∷ ps) i 0) ≡ syndrome cs (get_or (line_up ps qs) l 0)
        → get_or (0 ∷ ps) i 0 ≢ get_or (line_up ps qs) l 0 → ⊥
    first_of_kind i l b f h e ne =
        let s : get_or (line_up ps qs) i 0 ≡ get_or (0 ∷ ps) i 0 = front_at ps (detectable ps qs) i f in
        quiet i l (b, h, ((λ z. ne (sym s ∙ z)), ap (syndrome cs) s ∙ e), subst (EmptyOrCorrectable ps) (sym s) (front_forgiven ps i f))

    -- an empty or correctable pattern is what decoding takes for its syndrome
    taken_front : (i : ℕ) → i < length ps + 1 → taken cs ps (syndrome cs (get_or (0 ∷ ps) i 0)) ≡ Some (get_or (0 ∷ ps) i 0)
    taken_front i h = at (taken cs ps (syndrome cs (get_or (0 ∷ ps) i 0))) refl
      where
        at : (o : Option ℕ) → taken cs ps (syndrome cs (get_or (0 ∷ ps) i 0)) ≡ o → o ≡ Some (get_or (0 ∷ ps) i 0)
        at None e = absurd (both_ways _ (unfound (leaves cs (syndrome cs (get_or (0 ∷ ps) i 0))) (0 ∷ ps) e i (omega arith)) (eq-eqb _ _ refl))
        at (Some p) e =
            let k = found (leaves cs (syndrome cs (get_or (0 ∷ ps) i 0))) (0 ∷ ps) p e in
            elim (cases_order k.0 i) [
              | inl same ↦ ap Some (sym k.2 ∙ ap (λ j. get_or (0 ∷ ps) j 0) same)
              | inr o ↦ elim o [
                | inl b ↦ elim (cases_eq (get_or (0 ∷ ps) k.0 0) (get_or (0 ∷ ps) i 0)) [
                  | inl same ↦ ap Some (sym k.2 ∙ same)
                  | inr ne ↦
                      (let s : get_or (line_up ps qs) i 0 ≡ get_or (0 ∷ ps) i 0 = front_at ps (detectable ps qs) i h in
                      let long = line_length ps qs in
                      absurd (first_of_kind k.0 i b (omega arith) (omega arith) (eqb-true _ _ k.1.passes ∙ ap (syndrome cs) (sym s)) (λ z. ne (z ∙ s))))
                ]
                | inr b ↦ absurd (both_ways _ (k.1.before i b) (eq-eqb _ _ refl))
              ]
            ]

    -- a pattern to flag has the syndrome of none
    taken_none : (q : ℕ) → Detectable ps qs q → taken cs ps (syndrome cs q) ≡ None
    taken_none q d = at (taken cs ps (syndrome cs q)) refl
      where
        apart : (i : ℕ) → i < length ps + 1 → get_or (0 ∷ ps) i 0 ≡ q → ⊥
        apart zero h e = let k = (second.each q d.0).0 in absurd (omega arith)
        apart (suc i) h e = both_ways (among ps q) d.1 (subst (λ x. among ps x ≡ true) e (among_at ps i (omega arith)))

        at : (o : Option ℕ) → taken cs ps (syndrome cs q) ≡ o → o ≡ None
        at None e = refl
        at (Some p) e =
            let k = found (leaves cs (syndrome cs q)) (0 ∷ ps) p e in
            let place = detectable_place ps qs (length cs) first second q d in
            let inside : k.0 < length ps + 1 = (let h = k.1.inside in omega arith) in
            absurd (first_of_kind k.0 place.0 (omega (arith, place.1)) inside place.2 (eqb-true _ _ k.1.passes ∙ ap (syndrome cs) (sym place.3)) (λ z. apart k.0 inside (z ∙ place.3)))

    -- a code word struck by a pattern of the front decodes to its data word
    struck_decodes : (d i : ℕ) → d < 2 ^ length ds → i < length ps + 1 → by_decoding cs ds ps (bit_xor (encoding cs ds d) (get_or (0 ∷ ps) i 0)) ≡ Some d
    struck_decodes d i k h =
        let p : ℕ = get_or (0 ∷ ps) i 0 in
        let w : ℕ = bit_xor (encoding cs ds d) p in
        ap (λ s. data_word (undone ds w (taken cs ps s))) (struck_syndrome cs ds good d p k)
        ∙ (ap (λ o. data_word (undone ds w o)) (taken_front i h) ∙ ap Some (struck_data cs ds good d p k))

    pub serves : Duty cs ds ps qs (by_decoding cs ds ps)
    serves = record {
      clean = λ d k. ap (by_decoding cs ds ps) (sym (xor_zero_r (encoding cs ds d))) ∙ struck_decodes d 0 k (omega arith);
      corrects = λ d p k c. let place = place_of ps p c in
          ap (λ x. by_decoding cs ds ps (bit_xor (encoding cs ds d) x)) (sym place.2) ∙ struck_decodes d (suc place.0) k (omega (arith, place.1));
      flags = λ d q k f.
          ap (λ s. data_word (undone ds (bit_xor (encoding cs ds d) q) (taken cs ps s))) (struck_syndrome cs ds good d q k)
          ∙ ap (λ o. data_word (undone ds (bit_xor (encoding cs ds d) q) o)) (taken_none q f);
    }

    pub decoding_serves : DecodingServes cs ds ps qs
    decoding_serves = (gives_data, serves)
