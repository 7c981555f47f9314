-- A code whose check columns us hold the units in the order of the rows has exactly one code word for each data word.
use Rattle.std.proofs.Common.{◌≡◌, ℕ, zero, suc, ◌+◌, ◌*◌, ◌/◌, ◌%◌, ◌^◌, ◌<◌, true, false, eqb, ◌≢◌, List, [], ◌∷◌, map, length, get_or, sym, refl, ap, ◌∙◌, subst, ap₂, inl, inr, mul-one, arith}
use lib.Bits.{bit_xor, xor_zero_r, xor_assoc, xor_self, xor_lt}
use Rattle.std.specs.List.{range_with_len}
use Rattle.std.proofs.lemmas.Bool.{cases_Bool, both_ways, eqb-true, eqb-false, eq-eqb, or_cases, or_parts, or_left, or_right}
use Rattle.code.specs.Words.{bit, pick, combine, gather, unit, place}
use Rattle.code.specs.Search.{among}
use Rattle.code.specs.Codes.{syndrome, Encodes, Inside}
use Rattle.code.proofs.Bits.{odd_lt, half_below, bit_lt, bit-bit_xor, bit_none, bit_pow_same, bit_pow_other, bits_same}
use Rattle.code.proofs.Combining.{combine_xor, combine_lt, combine_place, combine_units, place_lt}
use Rattle.code.proofs.Gathering.{gather_xor, gather_lt}
use Rattle.code.proofs.Members.{Distinct}

-- ---- placed bits

bit_pick_other : (b i j : ℕ) → i ≢ j → bit (pick b (2 ^ i)) j ≡ 0
bit_pick_other zero i j h = bit_none j
bit_pick_other (suc b) i j h = bit_pow_other i j h

bit_pick_same : (b j : ℕ) → b < 2 → bit (pick b (2 ^ j)) j ≡ b
bit_pick_same zero j h = bit_none j
bit_pick_same (suc zero) j h = bit_pow_same j
bit_pick_same (suc (suc b)) j h = absurd (omega arith)

place_beside : (js : List ℕ) (d j : ℕ) → among js j ≡ false → bit (place js d) j ≡ 0
place_beside [] d j e = bit_none j
place_beside (i ∷ is) d j e =
    let parts = or_parts (eqb i j) (among is j) e in
    bit-bit_xor (pick (d % 2) (2 ^ i)) (place is (d / 2)) j
    ∙ ap₂ bit_xor (bit_pick_other (d % 2) i j (eqb-false i j parts.0)) (place_beside is (d / 2) j parts.1)

-- the bits of w at the places js, placed again, are the bits of w there
place_gather : (js : List ℕ) (w j : ℕ) → Distinct js → among js j ≡ true → bit (place js (gather js w)) j ≡ bit w j
place_gather [] w j u e = absurd (both_ways true (sym e) refl)
place_gather (i ∷ is) w j u e =
    let k = bit_lt w i in
    let lo : (gather is w * 2 + bit w i) % 2 ≡ bit w i = omega arith in
    let hi : (gather is w * 2 + bit w i) / 2 ≡ gather is w = omega arith in
    ap₂ (λ x y. bit (bit_xor (pick x (2 ^ i)) (place is y)) j) lo hi
    ∙ (bit-bit_xor (pick (bit w i) (2 ^ i)) (place is (gather is w)) j
    ∙ elim (or_cases (eqb i j) (among is j) e) [
      | inl h ↦ subst (λ x. bit_xor (bit (pick (bit w i) (2 ^ i)) x) (bit (place is (gather is w)) x) ≡ bit w x) (eqb-true i j h)
          (ap₂ bit_xor (bit_pick_same (bit w i) i k) (place_beside is (gather is w) i u.0) ∙ xor_zero_r (bit w i))
      | inr h ↦ ap₂ bit_xor (bit_pick_other (bit w i) i j (λ p. both_ways (among is i) u.0 (subst (λ x. among is x ≡ true) (sym p) h)))
          (place_gather is w j u.1 h)
    ])

gather_pick_other : (js : List ℕ) (b i : ℕ) → among js i ≡ false → gather js (pick b (2 ^ i)) ≡ 0
gather_pick_other [] b i e = refl
gather_pick_other (j ∷ js) b i e =
    let parts = or_parts (eqb j i) (among js i) e in
    ap₂ (λ x y. x * 2 + y) (gather_pick_other js b i parts.1) (bit_pick_other b i j (λ p. eqb-false j i parts.0 (sym p)))

-- a word comes back from where it was placed
gather_place : (js : List ℕ) (d : ℕ) → Distinct js → d < 2 ^ length js → gather js (place js d) ≡ d
gather_place [] d u h = omega arith
gather_place (j ∷ js) d u h =
    let hi : gather js (place (j ∷ js) d) ≡ d / 2
    = gather_xor js (pick (d % 2) (2 ^ j)) (place js (d / 2))
    ∙ ap₂ bit_xor (gather_pick_other js (d % 2) j u.0) (gather_place js (d / 2) u.1 (half_below (length js) d h)) in
    let lo : bit (place (j ∷ js) d) j ≡ d % 2
    = bit-bit_xor (pick (d % 2) (2 ^ j)) (place js (d / 2)) j
    ∙ (ap₂ bit_xor (bit_pick_same (d % 2) j (odd_lt d)) (place_beside js (d / 2) j u.0) ∙ xor_zero_r (d % 2)) in
    omega arith

gather_apart : (ds us : List ℕ) (s : ℕ) → ((j : ℕ) → among ds j ≡ true → among us j ≡ false) → gather ds (place us s) ≡ 0
gather_apart [] us s h = refl
gather_apart (d ∷ ds) us s h =
    ap₂ (λ x y. x * 2 + y) (gather_apart ds us s (λ j e. h j (or_right (eqb d j) (among ds j) e)))
    (place_beside us s d (h d (or_left (eqb d d) (among ds d) (eq-eqb d d refl))))

-- ---- a systematic code

pub record Systematic (cs ds us : List ℕ) : Type 0 where
  pub data_distinct : Distinct ds
  pub check_distinct : Distinct us
  pub data_inside : Inside cs ds
  pub checks_inside : Inside cs us
  -- a column is a data column or a check column, and not both
  pub apart : (j : ℕ) → among ds j ≡ true → among us j ≡ false
  pub cover : (j : ℕ) → j < length cs → among ds j ≡ false → among us j ≡ true
  pub values : map (λ j. get_or cs j 0) us ≡ map unit (range_with_len 0 (length us))
  pub narrow : (j : ℕ) → j < length cs → get_or cs j 0 < 2 ^ length us

-- the code word by its construction
abbrev pub constructed : List ℕ → List ℕ → List ℕ → ℕ → ℕ
constructed cs ds us d = bit_xor (place ds d) (place us (syndrome cs (place ds d)))

module _ (cs ds us : List ℕ) (sys : Systematic cs ds us) where
  pub syndrome_lt : (w : ℕ) → syndrome cs w < 2 ^ length us
  syndrome_lt w = combine_lt (length us) cs w sys.narrow

  -- check bits alone have themselves as syndrome
  syndrome_checks : (s : ℕ) → s < 2 ^ length us → syndrome cs (place us s) ≡ s
  syndrome_checks s h = combine_place cs us s ∙ (ap (λ vs. combine vs s) sys.values ∙ (combine_units 0 (length us) s h ∙ mul-one s))

  -- a word is its data bits and its check bits
  word_parts : (w : ℕ) → w < 2 ^ length cs → w ≡ bit_xor (place ds (gather ds w)) (place us (gather us w))
  word_parts w h = bits_same (length cs) w (bit_xor (place ds (gather ds w)) (place us (gather us w))) h
      (xor_lt (length cs) (place ds (gather ds w)) (place us (gather us w)) (place_lt (length cs) ds (gather ds w) sys.data_inside) (place_lt (length cs) us (gather us w) sys.checks_inside))
      (λ j k. sym (bit-bit_xor (place ds (gather ds w)) (place us (gather us w)) j ∙ elim (cases_Bool (among ds j)) [
        | inl e ↦ (ap₂ bit_xor (place_gather ds w j sys.data_distinct e) (place_beside us (gather us w) j (sys.apart j e)) ∙ xor_zero_r (bit w j))
        | inr e ↦ ap₂ bit_xor (place_beside ds (gather ds w) j e) (place_gather us w j sys.check_distinct (sys.cover j k e))
      ]))

  pub constructed_encodes : (d : ℕ) → d < 2 ^ length ds → Encodes cs ds d (constructed cs ds us d)
  constructed_encodes d h =
      let p : ℕ = place ds d in
      let s : ℕ = syndrome cs p in (
        xor_lt (length cs) p (place us s) (place_lt (length cs) ds d sys.data_inside) (place_lt (length cs) us s sys.checks_inside),
        gather_xor ds p (place us s) ∙ (ap₂ bit_xor (gather_place ds d sys.data_distinct h) (gather_apart ds us s sys.apart) ∙ xor_zero_r d),
        combine_xor cs p (place us s) ∙ (ap (bit_xor s) (syndrome_checks s (syndrome_lt p)) ∙ xor_self s),
      )

  -- no other word has these data bits and syndrome zero
  pub encodes_once : (d w : ℕ) → Encodes cs ds d w → w ≡ constructed cs ds us d
  encodes_once d w e =
      let g : ℕ = gather us w in
      let s : ℕ = syndrome cs (place ds d) in
      let parts : w ≡ bit_xor (place ds d) (place us g) = word_parts w e.0 ∙ ap (λ x. bit_xor (place ds x) (place us g)) e.1 in
      let none : bit_xor s g ≡ 0
      = sym (ap (combine cs) parts ∙ (combine_xor cs (place ds d) (place us g) ∙ ap (bit_xor s) (syndrome_checks g (gather_lt us w)))) ∙ e.2 in
      parts ∙ ap (λ x. bit_xor (place ds d) (place us x)) (xor_same s g none)
    where
      xor_same : (a b : ℕ) → bit_xor a b ≡ 0 → b ≡ a
      xor_same a b z = sym (sym (xor_assoc a a b) ∙ (ap (λ x. bit_xor x b) (xor_self a))) ∙ (ap (bit_xor a) z ∙ xor_zero_r a)
