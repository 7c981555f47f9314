-- What decoding takes for a syndrome, and what it answers. The code has the column values cs and the data columns ds, and the class lists ps.
use Rattle.std.proofs.Common.{◌≡◌, ℕ, ◌+◌, ◌^◌, ◌<◌, ◌≤◌, false, List, ◌∷◌, length, ltb, get_or, Some, None, Ok, Err, inl, inr, refl, sym, ap, ◌∙◌, subst, arith}
use Rattle.std.proofs.lemmas.Bool.{both_ways, cases_lt, cond-false, cond-true, eq-eqb, eqb-true, le-ltb, lt-ltb}
use Rattle.std.specs.Int.Bits.{bit_xor, xor_zero_r}
use Rattle.code.specs.Codes.{Wellformed, encoding, syndrome}
use Rattle.code.specs.Meaning.{within}
use Rattle.code.specs.Words.{gather}
use Rattle.code.specs.declared.refusal.Refusal.TheVariants.{TooWide, WidthsDiffer}
use Rattle.code.proofs.Codewords.{one_codeword, reads_back}
use Rattle.code.proofs.Gathering.{gather_lt}
use Rattle.listings.specs.Lawful.{Lawful, Patterns}
use Rattle.judge.specs.Answers.{given}
use Rattle.judge.specs.Decoding.{Decodes, DecodesEncoded, decoded, decoding, FirstWith, NoneBefore, leaves, taken, undone}
use Rattle.judge.specs.declared.decoded.Decoded.TheVariants.{Data}
use Rattle.judge.proofs.Finding.{FirstAt, find_first, find_none, found, unfound}
use Rattle.judge.proofs.Lines.{candidate_below, candidates, front_below}
use Rattle.judge.proofs.Striking.{apart_encoded, syndrome_zero, xor_undo}

-- what a class lists has the width of the code, if the class has
pub patterns_fit : (m n : ℕ) (ps : List ℕ) → Lawful m ps → m ≡ n → Patterns n ps
patterns_fit m n ps law same = subst (λ x. Patterns x ps) same law.each

-- a pattern of the front has the width of its class
pub front_fits : (m n : ℕ) (ps : List ℕ) (e p : ℕ) → Lawful m ps → m ≡ n → e < length ps + 1 → p ≡ get_or (0 ∷ ps) e 0 → p < 2 ^ n
front_fits m n ps e p law same h is = subst (λ x. x < 2 ^ n) (sym is) (front_below n ps e (patterns_fit m n ps law same) h)

-- and so has a pattern of either class
pub candidate_fits : (m o n : ℕ) (ps qs : List ℕ) (j p : ℕ) → Lawful m ps → Lawful o qs → m ≡ n → o ≡ n → j < length ps + 1 + length qs → p ≡ get_or (candidates ps qs) j 0 → p < 2 ^ n
candidate_fits m o n ps qs j p first second a b h is =
    subst (λ x. x < 2 ^ n) (sym is)
    (candidate_below n ps qs j (patterns_fit m n ps first a) (patterns_fit o n qs second b) h)

-- ---- what a walk over the front finds

pub taken_here : (cs ps : List ℕ) (s i p : ℕ) → i < length ps + 1 → ((j : ℕ) → j < i → leaves cs s (get_or (0 ∷ ps) j 0) ≡ false) → p ≡ get_or (0 ∷ ps) i 0 → syndrome cs p ≡ s → Some p ≡ taken cs ps s
taken_here cs ps s i p h before is e =
    let first : FirstAt (leaves cs s) (0 ∷ ps) i = record { inside = omega arith; passes = eq-eqb _ _ (ap (syndrome cs) (sym is) ∙ e); before = before } in
    ap Some is ∙ sym (find_first (leaves cs s) (0 ∷ ps) i first)

pub taken_nowhere : (cs ps : List ℕ) (s b : ℕ) → length ps + 1 ≤ b → ((j : ℕ) → j < b → leaves cs s (get_or (0 ∷ ps) j 0) ≡ false) → None ≡ taken cs ps s
taken_nowhere cs ps s b h before = sym (find_none (leaves cs s) (0 ∷ ps) (λ j l. before j (omega arith)))

-- ---- what was taken

pub taken_first : (cs ps : List ℕ) (w p : ℕ) → taken cs ps (syndrome cs w) ≡ Some p → FirstWith cs ps w p
taken_first cs ps w p e =
    let k = found (leaves cs (syndrome cs w)) (0 ∷ ps) p e in
    (k.0, k.1.inside, k.2, ap (syndrome cs) (sym k.2) ∙ eqb-true _ _ k.1.passes, λ j l z. both_ways _ (k.1.before j l) (eq-eqb _ _ z))

pub taken_none_before : (cs ps : List ℕ) (w : ℕ) → taken cs ps (syndrome cs w) ≡ None → NoneBefore cs ps w (length (0 ∷ ps))
taken_none_before cs ps w e j l z = both_ways _ (unfound (leaves cs (syndrome cs w)) (0 ∷ ps) e j l) (eq-eqb _ _ z)

pub taken_below : (n : ℕ) (cs ps : List ℕ) (s p : ℕ) → Patterns n ps → taken cs ps s ≡ Some p → p < 2 ^ n
taken_below n cs ps s p each e =
    let k = found (leaves cs s) (0 ∷ ps) p e in
    subst (λ x. x < 2 ^ n) k.2 (front_below n ps k.0 each (let h = k.1.inside in omega arith))

-- the answer of decoding for a word that is not refused
pub decoding_is : (cs ds ps : List ℕ) (m w : ℕ) → m ≡ length cs → w < 2 ^ length cs → Ok (decoded cs ds ps w) ≡ decoding cs ds m ps w
decoding_is cs ds ps m w same h =
    sym (ap (λ b. given b WidthsDiffer (given (ltb w (2 ^ length cs)) TooWide (Ok (decoded cs ds ps w)))) (eq-eqb m (length cs) same)
    ∙ ap (λ b. given b TooWide (Ok (decoded cs ds ps w))) (lt-ltb w (2 ^ length cs) h))

module _ (cs ds ps : List ℕ) (good : Wellformed cs ds) where
  -- the word is the code word of the data word, struck by the pattern
  pub data_decodes : (w p : ℕ) → Patterns (length cs) ps → w < 2 ^ length cs → taken cs ps (syndrome cs w) ≡ Some p → Decodes cs ds ps w (Data (gather ds (bit_xor w p)) p)
  data_decodes w p each h e =
      let first = taken_first cs ps w p e in
      let fits : p < 2 ^ length cs = taken_below (length cs) cs ps (syndrome cs w) p each e in
      (first, gather_lt ds (bit_xor w p), ap (λ x. bit_xor x p) (apart_encoded cs ds good w p h fits (sym first.3)) ∙ xor_undo w p)

  -- an encoded word has the syndrome zero, and so has the empty pattern
  pub decodes_encoded : DecodesEncoded cs ds ps
  decodes_encoded d h =
      let w : ℕ = encoding cs ds d in
      let first : FirstAt (leaves cs 0) (0 ∷ ps) 0 = record { inside = omega arith; passes = eq-eqb _ _ (syndrome_zero cs); before = λ j l. absurd (omega arith) } in
      sym (decoding_is cs ds ps (length cs) w refl (one_codeword cs ds good d h).0.0)
      ∙ ap Ok (ap (λ s. undone ds w (taken cs ps s)) (one_codeword cs ds good d h).0.2
      ∙ (ap (undone ds w) (find_first (leaves cs 0) (0 ∷ ps) 0 first)
      ∙ ap (λ x. Data x 0) (ap (gather ds) (xor_zero_r w) ∙ reads_back cs ds good d h)))

-- the answer of a call on a word that is not refused
pub within_ok : (n w x s : ℕ) → Ok s ≡ within n w x → (w < 2 ^ n) × (s ≡ x)
within_ok n w x s e = elim (cases_lt w (2 ^ n)) [
  | inl h ↦ (let k : Ok s ≡ Ok x = e ∙ cond-true (ltb w (2 ^ n)) (Ok x) (Err TooWide) (lt-ltb w (2 ^ n) h) in (h, cc))
  | inr h ↦ absurd (let k : Ok s ≡ Err TooWide = e ∙ cond-false (ltb w (2 ^ n)) (Ok x) (Err TooWide) (le-ltb w (2 ^ n) h) in let z : ⊥ = cc in z)
]
