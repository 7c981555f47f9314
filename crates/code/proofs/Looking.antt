-- What the searches of an opening find, over the columns in their order.
use Rattle.std.proofs.Common.{◌≡◌, ℕ, ◌+◌, ◌<◌, Bool, true, false, ◌||◌, List, length, get_or, Some, None, Option, ap, ◌∙◌, subst, inl, inr, arith}
use Rattle.std.specs.Bool.{MatchBool}
use Rattle.std.specs.List.{AllWithin, HoldsAt, enumerate_from, range_with_len}
use Rattle.std.specs.Option.{MatchOption}
use Rattle.std.proofs.lemmas.Bool.{both_ways, true≢false, false≢true, or_cases, or_parts}
use Rattle.std.proofs.lemmas.List.FromFn.{length-enumerate_from, get_or-enumerate_from, length-range_with_len, get_or-range_with_len}
use Rattle.code.specs.Search.{among}
use Rattle.code.specs.Codes.{Check, Covered}
use Rattle.code.proofs.Members.{beside, not_among}

module _ (cs ds : List ℕ) where
  -- column j is no data column and holds v
  abbrev pub Hit : ℕ → ℕ × ℕ → Type 0
  Hit v p = (p.1 ≡ v) × (among ds p.0 ≡ false)

  abbrev pub Miss : ℕ → ℕ × ℕ → Type 0
  Miss v p = p.1 ≡ v → among ds p.0 ≡ false → ⊥

  numbered : (j : ℕ) → j < length cs → get_or (enumerate_from 0 cs) j (0, 0) ≡ (j, get_or cs j 0)
  numbered j h = let e : 0 + j ≡ j = omega arith in get_or-enumerate_from 0 cs j (0, 0) h ∙ ap (λ i. (i, get_or cs j 0)) e

  ranged : (j : ℕ) → j < length cs → get_or (range_with_len 0 (length cs)) j 0 ≡ j
  ranged j h = let e : 0 + j ≡ j = omega arith in get_or-range_with_len 0 (length cs) j 0 h ∙ e

  pub first_check : (v : ℕ) (o : Option ℕ)
      → MatchOption o (AllWithin (Miss v) (enumerate_from 0 cs) 0 (length (enumerate_from 0 cs)))
      (λ i. (i < length (enumerate_from 0 cs)) × HoldsAt (Hit v) (enumerate_from 0 cs) i × AllWithin (Miss v) (enumerate_from 0 cs) 0 i)
      → MatchOption o ((j : ℕ) → Check cs ds j → get_or cs j 0 ≡ v → ⊥) (λ j. Check cs ds j × (get_or cs j 0 ≡ v))
  first_check v None f = λ j c e. let n = length-enumerate_from 0 cs in
      subst (Miss v) (numbered j c.0) (f j (0, 0) (omega arith) (omega (arith, c.0))) e (not_among ds j c.1)
  first_check v (Some i) f =
      let n = length-enumerate_from 0 cs in
      let h : i < length cs = omega (arith, f.0) in
      let hit : Hit v (i, get_or cs i 0) = subst (Hit v) (numbered i h) (f.1 (0, 0)) in
      ((h, beside ds i hit.1), hit.0)

  -- whether each column is one of ds or one of us
  pub covered_by : (us : List ℕ) (r : Bool)
      → MatchBool r (AllWithin (λ j. (among ds j || among us j) ≡ true) (range_with_len 0 (length cs)) 0 (length (range_with_len 0 (length cs))))
      ((k : ℕ) × (k < length (range_with_len 0 (length cs))) × HoldsAt (λ j. (among ds j || among us j) ≡ false) (range_with_len 0 (length cs)) k)
      → (r ≡ true → Covered cs ds us) × (r ≡ false → Covered cs ds us → ⊥)
  covered_by us true f = (
    λ e j h a b. let n = length-range_with_len 0 (length cs) in
        elim (or_cases (among ds j) (among us j) (subst (λ x. (among ds x || among us x) ≡ true) (ranged j h) (f j 0 (omega arith) (omega arith)))) [
          | inl t ↦ both_ways (among ds j) (not_among ds j a) t
          | inr t ↦ both_ways (among us j) (not_among us j b) t
        ],
    λ e. absurd (true≢false e),
  )
  covered_by us false f = (
    λ e. absurd (false≢true e),
    λ e covered.
        let n = length-range_with_len 0 (length cs) in
        let h : f.0 < length cs = omega (arith, f.1) in
        let p = or_parts (among ds f.0) (among us f.0) (subst (λ x. (among ds x || among us x) ≡ false) (ranged f.0 h) (f.2 0)) in
        covered f.0 h (beside ds f.0 p.0) (beside us f.0 p.1),
  )
