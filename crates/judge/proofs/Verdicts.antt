-- What the search finds is the verdict, and what the verdict says. The first class, of width m, lists ps; the second, of width o, lists qs.
use Rattle.std.proofs.Common.{◌≡◌, ℕ, ◌^◌, ◌<◌, Bool, true, false, eqb, List, length, get_or, Ok, Err, Result, inl, inr, sym, refl, ap, ◌∙◌, subst, arith}
use Rattle.std.proofs.lemmas.Bool.{and_from, both_ways, eq-eqb}
use Rattle.code.specs.Codes.{Wellformed}
use Rattle.code.specs.Search.{among}
use Rattle.code.specs.declared.refusal.Refusal.{Refusal}
use Rattle.code.specs.declared.refusal.Refusal.TheVariants.{CorrectableClash, DetectableClash, WidthsDiffer}
use Rattle.listings.specs.Lawful.{Lawful}
use Rattle.judge.specs.Answers.{given}
use Rattle.judge.specs.LineUp.{Accepted, Alike, Detectable, FirstPair, line_up}
use Rattle.judge.specs.Verdicts.{Fitting, Judged, NoFalseVerdict, Refuses, clash_refusal, fitting_verdict, shown, verdict}
use Rattle.judge.proofs.Judging.{no_false_verdict, verdict_accepted, verdict_refused}
use Rattle.judge.proofs.Ruling.{clash_bars, collides, decoding_serves, later_kind, place_below}

-- what the judge promises of an answer
pub record Rightly (cs ds : List ℕ) (m : ℕ) (ps : List ℕ) (o : ℕ) (qs : List ℕ) (r : Result ℕ Refusal) : Type 0 where
  pub value : r ≡ verdict cs ds m ps o qs
  pub judged : Judged cs ds m ps o qs r
  pub exact : NoFalseVerdict cs ds m ps o qs r

module _ (cs ds : List ℕ) (good : Wellformed cs ds) (m : ℕ) (ps : List ℕ) (o : ℕ) (qs : List ℕ) (first : Lawful m ps) (second : Lawful o qs) (fit : Fitting cs m o) where
  first_fits : Lawful (length cs) ps
  first_fits = subst (λ x. Lawful x ps) fit.0 first

  second_fits : Lawful (length cs) qs
  second_fits = subst (λ x. Lawful x qs) fit.1 second

  -- a verdict on a fitting design is not the refusal of its widths
  fitting_answer : verdict cs ds m ps o qs ≡ fitting_verdict cs ds ps qs
  fitting_answer = ap (λ b. given b WidthsDiffer (fitting_verdict cs ds ps qs)) (and_from (eqb m (length cs)) (eqb o (length cs)) (eq-eqb m (length cs) fit.0) (eq-eqb o (length cs) fit.1))

  accepted_value : (places : ℕ) → places ≡ length (line_up ps qs) → Accepted cs ps qs → Ok places ≡ verdict cs ds m ps o qs
  accepted_value places e quiet = ap Ok e ∙ (sym (verdict_accepted cs ps qs ds quiet) ∙ sym fitting_answer)

  accepted_judged : (places : ℕ) → places ≡ length (line_up ps qs) → Accepted cs ps qs → Judged cs ds m ps o qs (Ok places)
  accepted_judged places e quiet = (fit, e, quiet, decoding_serves cs ds ps qs good first_fits second_fits quiet)

  -- both patterns of a clash have the width of the code
  earlier_below : (p q : ℕ) → FirstPair cs ps qs p q → p < 2 ^ length cs
  earlier_below p q pair = let c = pair.2.0 in
      subst (λ x. x < 2 ^ length cs) pair.3 (place_below ps qs (length cs) first_fits second_fits pair.0 (let h = c.0 in let k = c.1 in omega arith))

  pub later_below : (p q : ℕ) → FirstPair cs ps qs p q → q < 2 ^ length cs
  later_below p q pair =
      subst (λ x. x < 2 ^ length cs) pair.4 (place_below ps qs (length cs) first_fits second_fits pair.1 pair.2.0.1)

  refused_value : (p q : ℕ) → FirstPair cs ps qs p q → Err (clash_refusal ds ps p q) ≡ verdict cs ds m ps o qs
  refused_value p q pair =
      ap (λ x. Err (clash_refusal ds ps x q)) (sym pair.3)
      ∙ (ap (λ x. Err (clash_refusal ds ps (get_or (line_up ps qs) pair.0 0) x)) (sym pair.4)
      ∙ (sym (verdict_refused cs ps qs ds pair.0 pair.1 pair.2) ∙ sym fitting_answer))

  refuses : (p q : ℕ) → FirstPair cs ps qs p q → Refuses cs ds ps qs (shown ds p q)
  refuses p q pair =
      let c = pair.2.0 in
      let alike = subst (λ x. Alike cs x q) pair.3 (subst (λ x. Alike cs (get_or (line_up ps qs) pair.0 0) x) pair.4 c.2) in (
        pair,
        collides cs ds ps qs good first_fits second_fits p q (earlier_below p q pair) (later_below p q pair) alike,
        clash_bars cs ds ps qs good first_fits second_fits pair.0 pair.1 c,
      )

  -- a later pattern that the first class does not list is to be flagged
  later_detectable : (p q : ℕ) → FirstPair cs ps qs p q → among ps q ≡ false → Detectable ps qs q
  later_detectable p q pair out =
      let c = pair.2.0 in
      let kind = later_kind ps qs (length cs) first_fits second_fits pair.1 (let h = c.0 in omega arith) c.1 in
      subst (Detectable ps qs) pair.4 (elim kind.0 [ inl y ↦ absurd (both_ways (among ps q) out (subst (λ x. among ps x ≡ true) pair.4 y)) | inr d ↦ d ])

  refused_judged : (p q : ℕ) → FirstPair cs ps qs p q → Judged cs ds m ps o qs (Err (clash_refusal ds ps p q))
  refused_judged p q pair = at (among ps q) refl
    where
      at : (b : Bool) → among ps q ≡ b → Judged cs ds m ps o qs (Err (elim b [ true ↦ CorrectableClash (shown ds p q) | false ↦ DetectableClash (shown ds p q) ]))
      at true e = (fit, e, refuses p q pair)
      at false e = (fit, later_detectable p q pair e, refuses p q pair)

  -- ---- what the search finds

  pub accepts : (places : ℕ) → (places ≡ length (line_up ps qs)) × Accepted cs ps qs → Rightly cs ds m ps o qs (Ok places)
  accepts places found =
      let j = accepted_judged places found.0 found.1 in
      record { value = accepted_value places found.0 found.1; judged = j; exact = no_false_verdict cs ds m ps o qs (Ok places) j }

  pub refuses_with : (p q : ℕ) (e : Refusal) → FirstPair cs ps qs p q → e ≡ clash_refusal ds ps p q → Rightly cs ds m ps o qs (Err e)
  refuses_with p q e pair is =
      let j = subst (λ x. Judged cs ds m ps o qs (Err x)) (sym is) (refused_judged p q pair) in
      record { value = ap Err is ∙ refused_value p q pair; judged = j; exact = no_false_verdict cs ds m ps o qs (Err e) j }
