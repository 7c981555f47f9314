-- The computed verdict is what the relation of clashes says.
use Rattle.std.proofs.Common.{◌≡◌, ℕ, ◌<◌, true, false, not, ◌&&◌, ◌||◌, eqb, List, length, get_or, Some, None, Ok, Err, Result, refl, ap, ◌∙◌, inl, inr, arith}
use Rattle.std.proofs.lemmas.Bool.{and_from, and_parts, eq-eqb, eqb-false, eqb-true, false_from_ne_true, ne_eqb, not-true, not_from_false, not_from_true, or_cases, or_left, or_right}
use Rattle.code.specs.Codes.{syndrome}
use Rattle.code.specs.Search.{among, is_none}
use Rattle.code.specs.declared.refusal.Refusal.{Refusal}
use Rattle.code.specs.declared.refusal.Refusal.TheVariants.{ColumnCount, OutOfBounds, OutOfBoundsAt, DataColumn, ColumnValue, NotUnits, CorrectableClash, DetectableClash, WidthsDiffer, BeyondEnd, TooWide, TooWideAt, LostCell, ShortTable, CampaignFull}
use Rattle.code.proofs.Searching.{fails_none, first_least}
use Rattle.judge.specs.LineUp.{Accepted, Clashes, FirstClash, line_up}
use Rattle.judge.specs.Rules.{by_decoding}
use Rattle.judge.specs.Verdicts.{Judged, NoFalseVerdict, clash_refusal, clashes, earlier_place, fitting_verdict, judged_by, later_place, refused_at}

module _ (cs ps qs : List ℕ) where
  -- the test of two places finds just the clashes
  test_clash : (e l : ℕ) → e < l → l < length (line_up ps qs) → clashes cs ps (line_up ps qs) e l ≡ true → Clashes cs ps qs e l
  test_clash e l b h t =
      let p : ℕ = get_or (line_up ps qs) e 0 in
      let q : ℕ = get_or (line_up ps qs) l 0 in
      let k = and_parts (not (eqb p q)) (eqb (syndrome cs p) (syndrome cs q) && (eqb p 0 || among ps p)) t in
      let m = and_parts (eqb (syndrome cs p) (syndrome cs q)) (eqb p 0 || among ps p) k.1 in
      (b, h, (eqb-false p q (not-true (eqb p q) k.0), eqb-true (syndrome cs p) (syndrome cs q) m.0), elim (or_cases (eqb p 0) (among ps p) m.1) [ inl z ↦ inl (eqb-true p 0 z) | inr c ↦ inr c ])

  clash_tests : (e l : ℕ) → Clashes cs ps qs e l → clashes cs ps (line_up ps qs) e l ≡ true
  clash_tests e l c =
      let p : ℕ = get_or (line_up ps qs) e 0 in
      let q : ℕ = get_or (line_up ps qs) l 0 in
      let forgiven : (eqb p 0 || among ps p) ≡ true = elim c.3 [ inl z ↦ or_left (eqb p 0) (among ps p) (eq-eqb p 0 z) | inr i ↦ or_right (eqb p 0) (among ps p) i ] in
      and_from (not (eqb p q)) (eqb (syndrome cs p) (syndrome cs q) && (eqb p 0 || among ps p)) (not_from_false (eqb p q) (ne_eqb p q c.2.0))
      (and_from (eqb (syndrome cs p) (syndrome cs q)) (eqb p 0 || among ps p) (eq-eqb (syndrome cs p) (syndrome cs q) c.2.1) forgiven)

  no_test : (e l : ℕ) → e < l → l < length (line_up ps qs) → (Clashes cs ps qs e l → ⊥) → clashes cs ps (line_up ps qs) e l ≡ false
  no_test e l b h f = false_from_ne_true (clashes cs ps (line_up ps qs) e l) (λ t. f (test_clash e l b h t))

  -- a place that clashes with none before it
  alone : (l : ℕ) → l < length (line_up ps qs) → ((e : ℕ) → Clashes cs ps qs e l → ⊥) → not (is_none (earlier_place cs ps (line_up ps qs) l)) ≡ false
  alone l h f = not_from_true (is_none (earlier_place cs ps (line_up ps qs) l)) (fails_none (λ e'. clashes cs ps (line_up ps qs) e' l) l (λ e b. no_test e l b h (f e)))

  found_earlier : (e l : ℕ) → FirstClash cs ps qs e l → earlier_place cs ps (line_up ps qs) l ≡ Some e
  found_earlier e l f = let c = f.0 in
      first_least (λ e'. clashes cs ps (line_up ps qs) e' l) l (Some e)
      (omega arith, c.0, clash_tests e l c, λ j a b. no_test j l (let h = c.0 in omega arith) c.1 (f.2 j b))

  found_later : (e l : ℕ) → FirstClash cs ps qs e l → later_place cs ps (line_up ps qs) ≡ Some l
  found_later e l f = let c = f.0 in
      first_least (λ k. not (is_none (earlier_place cs ps (line_up ps qs) k))) (length (line_up ps qs)) (Some l)
      (omega arith, c.1, ap (λ o. not (is_none o)) (found_earlier e l f), λ k a b. alone k (let h = c.1 in omega arith) (λ e'. f.1 e' k b))

  pub verdict_refused : (ds : List ℕ) (e l : ℕ) → FirstClash cs ps qs e l → fitting_verdict cs ds ps qs ≡ Err (clash_refusal ds ps (get_or (line_up ps qs) e 0) (get_or (line_up ps qs) l 0))
  verdict_refused ds e l f =
      ap (judged_by cs ds ps (line_up ps qs)) (found_later e l f) ∙ ap (refused_at ds ps (line_up ps qs) l) (found_earlier e l f)

  pub verdict_accepted : (ds : List ℕ) → Accepted cs ps qs → fitting_verdict cs ds ps qs ≡ Ok (length (line_up ps qs))
  verdict_accepted ds quiet =
      ap (judged_by cs ds ps (line_up ps qs))
      (first_least (λ k. not (is_none (earlier_place cs ps (line_up ps qs) k))) (length (line_up ps qs)) None (λ k a b. alone k b (λ e. quiet e k)))

-- what each verdict says rules the duty in or out
pub no_false_verdict : (cs ds : List ℕ) (m : ℕ) (ps : List ℕ) (o : ℕ) (qs : List ℕ) (r : Result ℕ Refusal) → Judged cs ds m ps o qs r → NoFalseVerdict cs ds m ps o qs r
no_false_verdict cs ds m ps o qs (Ok places) j fit =
    ((λ c. elim c.1 [ inl e ↦ absurd (let k : ⊥ = cc in k) | inr e ↦ absurd (let k : ⊥ = cc in k) ]), λ none. absurd (none (record { answer = by_decoding cs ds ps; gives = j.3.0 }) j.3.1))
no_false_verdict cs ds m ps o qs (Err WidthsDiffer) j fit = absurd (j fit)
no_false_verdict cs ds m ps o qs (Err (CorrectableClash c)) j fit = ((λ k. j.2.2), λ none. (c, inl refl))
no_false_verdict cs ds m ps o qs (Err (DetectableClash c)) j fit = ((λ k. j.2.2), λ none. (c, inr refl))
no_false_verdict cs ds m ps o qs (Err ColumnCount) j fit = absurd j
no_false_verdict cs ds m ps o qs (Err OutOfBounds) j fit = absurd j
no_false_verdict cs ds m ps o qs (Err (OutOfBoundsAt i)) j fit = absurd j
no_false_verdict cs ds m ps o qs (Err (DataColumn i)) j fit = absurd j
no_false_verdict cs ds m ps o qs (Err (ColumnValue i)) j fit = absurd j
no_false_verdict cs ds m ps o qs (Err NotUnits) j fit = absurd j
no_false_verdict cs ds m ps o qs (Err BeyondEnd) j fit = absurd j
no_false_verdict cs ds m ps o qs (Err TooWide) j fit = absurd j
no_false_verdict cs ds m ps o qs (Err (TooWideAt i)) j fit = absurd j
no_false_verdict cs ds m ps o qs (Err LostCell) j fit = absurd j
no_false_verdict cs ds m ps o qs (Err ShortTable) j fit = absurd j
no_false_verdict cs ds m ps o qs (Err CampaignFull) j fit = absurd j
