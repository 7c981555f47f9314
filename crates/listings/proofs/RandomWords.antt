-- Random errors: the listing holds exactly the words with t ones, it rises, it is a class's listing, and each of its words is found by its number.
use Rattle.std.proofs.Common.{◌≡◌, ℕ, zero, suc, ◌+◌, ◌-◌, ◌*◌, ◌/◌, ◌^◌, ◌<◌, ◌≤◌, true, eqb, List, map, length, get_or, sym, refl, ap, ◌∙◌, subst, ap₂, inl, inr, one-mul, pow-suc, add-one, arith, pow_pos, pow_mono}
use lib.Count.{ones, ones_in, ones_step, ones_cat}
use Rattle.std.proofs.lemmas.List.{length-append, length-map, get_or_append_left, get_or-append_right, get_or-map}
use Rattle.std.proofs.lemmas.Bool.{cases_lt, cases_eq, eqb-true, eq-eqb, or_cases, or_left, false≢true}
use Rattle.code.proofs.Bits.{half_below}
use Rattle.code.proofs.Members.{among_at}
use Rattle.code.specs.Limits.{most_columns}
use Rattle.code.specs.Search.{among}
use Rattle.listings.specs.Lawful.{Patterns}
use Rattle.listings.specs.Limits.{most_ones}
use Rattle.listings.specs.Listings.{random, choose}
use Rattle.listings.specs.Subject.{OnesAmong, Chosen, ListsRandom}
use Rattle.listings.proofs.Ascents.{Climbs, climbs_append, climbs_add, ascending}
use Rattle.listings.proofs.Choosing.{eighth, choose_few, choose_mono, choose_chosen}
use Rattle.listings.proofs.Members.{append_cases, append_left, append_right, among_map, map_among}

-- ---- how many ones a word has

ones_zero : ones 0 ≡ 0
unfolding ones ones_in
ones_zero = refl

ones_one : ones 1 ≡ 1
unfolding ones ones_in
ones_one = refl

-- one more on top
ones_top : (n w : ℕ) → w < 2 ^ n → ones (w + 2 ^ n) ≡ suc (ones w)
ones_top n w h =
    let e : w + 2 ^ n ≡ 1 * 2 ^ n + w = let o = one-mul (2 ^ n) in omega arith in
    let c = ones_cat n 1 w h in
    let o = ones_one in
    ap ones e ∙ (c ∙ (let s : ones 1 + ones w ≡ suc (ones w) = omega arith in s))

no_ones : (n w : ℕ) → w < 2 ^ n → ones w ≡ 0 → w ≡ 0
no_ones zero w h e = omega arith
no_ones (suc n) w h e =
    let s = ones_step w in
    let k : w / 2 ≡ 0 = no_ones n (w / 2) (half_below n w h) (omega arith) in omega arith

-- ---- which words are listed

-- those of n + 1 bits with a one on top
abbrev lifted : ℕ → ℕ → List ℕ
lifted n t = map (λ x. x + 2 ^ n) (random n t)

pub random_only : (n t w : ℕ) → among (random n t) w ≡ true → OnesAmong n t w
random_only n zero w e = elim (or_cases (eqb 0 w) _ e) [
  | inl h ↦ (let z : 0 ≡ w = eqb-true 0 w h in (subst (λ x. x < 2 ^ n) z (pow_pos n), ap ones (sym z) ∙ ones_zero))
  | inr h ↦ absurd (false≢true h)
]
random_only zero (suc t) w e = absurd (false≢true e)
random_only (suc n) (suc t) w e =
    let p = pow-suc 2 n in
    elim (append_cases (random n (suc t)) (lifted n t) w e) [
      | inl k ↦ (let r = random_only n (suc t) w k in (omega (arith, r.0), r.1))
      | inr k ↦
          (let m = map_among (λ x. x + 2 ^ n) (random n t) w k in
          let r = random_only n t m.0 m.1 in
          (omega (arith, r.0, m.2), ap ones (sym m.2) ∙ (ones_top n m.0 r.0 ∙ ap suc r.1)))
    ]

pub random_every : (n t w : ℕ) → OnesAmong n t w → among (random n t) w ≡ true
random_every n zero w o = or_left (eqb 0 w) _ (eq-eqb 0 w (sym (no_ones n w o.0 o.1)))
random_every zero (suc t) w o = let z : w ≡ 0 = omega (arith, o.0) in let e = ones_zero in let s = ap ones z in absurd (omega (arith, o.1))
random_every (suc n) (suc t) w o =
    let p = pow-suc 2 n in
    elim (cases_lt w (2 ^ n)) [
      | inl l ↦ append_left (random n (suc t)) (lifted n t) w (random_every n (suc t) w (l, o.1))
      | inr l ↦
          (let below : w - 2 ^ n < 2 ^ n = omega (arith, o.0) in
          let back : w - 2 ^ n + 2 ^ n ≡ w = omega arith in
          let top = ones_top n (w - 2 ^ n) below in
          let same = ap ones back in
          append_right (random n (suc t)) (lifted n t) w
          (subst (λ x. among (lifted n t) x ≡ true) back (among_map (λ x. x + 2 ^ n) (random n t) (w - 2 ^ n) (random_every n t (w - 2 ^ n) (below, omega (arith, o.1))))))
    ]

pub random_length : (n t : ℕ) → length (random n t) ≡ choose n t
random_length n zero = refl
random_length zero (suc t) = refl
random_length (suc n) (suc t) =
    length-append (random n (suc t)) (lifted n t)
    ∙ ap₂ ◌+◌ (random_length n (suc t)) (length-map (random n t) (λ w. w + 2 ^ n) ∙ random_length n t)

climbing : (n t : ℕ) → Climbs 0 (random n t)
climbing n zero = (omega arith, tt)
climbing zero (suc t) = tt
climbing (suc n) (suc t) =
    climbs_append 0 (0 + 2 ^ n) (random n (suc t)) (lifted n t) (omega arith) (climbing n (suc t)) (λ w h. omega (arith, (random_only n (suc t) w h).0)) (climbs_add 0 (2 ^ n) (random n t) (climbing n t))

-- the listing in the subject's own words
pub lists_random : (n t : ℕ) → t ≤ n → ListsRandom n t (random n t)
lists_random n t f =
    ((λ w. (random_only n t w, random_every n t w)), ascending 0 (random n t) (climbing n t), subst (Chosen n t) (sym (random_length n t)) (choose_chosen n t f))

-- ---- a class

pub random_each : (n t : ℕ) → 1 ≤ t → Patterns n (random n t)
random_each n t l p h =
    let r = random_only n t p h in
    (elim (cases_eq p 0) [ inl z ↦ (let o = ones_zero in let s = ap ones z in absurd (omega (arith, r.1))) | inr d ↦ omega arith ], r.0)

pub random_few : (n t : ℕ) → n ≤ most_columns → t ≤ most_ones → length (random n t) ≤ eighth
random_few n t h m = let e = random_length n t in let f = choose_few n t h m in omega arith

-- ---- the word at a number: its top one, and the word without it

top_taken : (n t c i : ℕ) → c < n → choose c (suc t) ≤ i → i < choose (suc c) (suc t)
    → get_or (random n (suc t)) i 0 ≡ get_or (random c t) (i - choose c (suc t)) 0 + 2 ^ c
top_taken zero t c i h l u = absurd (omega arith)
top_taken (suc n) t c i h l u = elim (cases_eq c n) [
  | inl e ↦
      subst (λ x. get_or (random (suc n) (suc t)) i 0 ≡ get_or (random x t) (i - choose x (suc t)) 0 + 2 ^ x) (sym e)
      (top (subst (λ x. choose x (suc t) ≤ i) e l) (subst (λ x. i < choose (suc x) (suc t)) e u))
  | inr d ↦
      (let m = choose_mono (suc c) n (suc t) (omega arith) in
      let len = random_length n (suc t) in
      let lo : i < length (random n (suc t)) = omega arith in
      get_or_append_left (random n (suc t)) (lifted n t) 0 i lo ∙ top_taken n t c i (omega arith) l u)
]
  where
    top : choose n (suc t) ≤ i → i < choose (suc n) (suc t) → get_or (random (suc n) (suc t)) i 0 ≡ get_or (random n t) (i - choose n (suc t)) 0 + 2 ^ n
    top l u =
        let len = random_length n t in
        get_or-append_right (random n (suc t)) (lifted n t) (choose n (suc t)) i 0 (random_length n (suc t)) l
        ∙ get_or-map (λ w. w + 2 ^ n) (random n t) (i - choose n (suc t)) 0 0 (let g : i - choose n (suc t) < length (random n t) = omega arith in g)

pub record Step (n t c i : ℕ) : Type 0 where
  pub less : i - choose c t < choose c (t - 1)
  pub word : get_or (random n t) i 0 ≡ get_or (random c (t - 1)) (i - choose c t) 0 + 2 ^ c

-- the word at the number i of those with t ones has its top one in column c, and t - 1 ones below
pub step : (n t c i : ℕ) → 1 ≤ t → c < n → choose c t ≤ i → i < choose (c + 1) t → Step n t c i
step n zero c i o h l u = absurd (omega arith)
step n (suc t) c i o h l u =
    let e : suc t - 1 ≡ t = omega arith in
    let v : i < choose (suc c) (suc t) = subst (λ x. i < choose x (suc t)) (add-one c) u in
    record {
      less = subst (λ x. i - choose c (suc t) < choose c x) (sym e) (let g : i - choose c (suc t) < choose c t = omega arith in g);
      word = subst (λ x. get_or (random n (suc t)) i 0 ≡ get_or (random c x) (i - choose c (suc t)) 0 + 2 ^ c) (sym e) (top_taken n t c i h l v);
    }

pub word_below : (n t i m : ℕ) → n ≤ m → i < length (random n t) → get_or (random n t) i 0 < 2 ^ m
word_below n t i m h l =
    let r = random_only n t (get_or (random n t) i 0) (among_at (random n t) i l) in
    let p = pow_mono {i = n} {j = m} h in omega (arith, r.0)
