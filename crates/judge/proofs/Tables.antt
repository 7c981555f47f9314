-- The entries of a decoding table, as a walk over the class writes them. The code has the column values cs and the data columns ds, and the class lists ps.
use Rattle.std.proofs.Common.{◌≡◌, ◌≢◌, ℕ, zero, suc, ◌+◌, ◌-◌, ◌%◌, ◌^◌, ◌<◌, ◌≤◌, Bool, true, false, ◌&&◌, cond, eqb, List, [], ◌∷◌, ◌++◌, length, get_or, set, take, drop, EachIndex, Some, None, Option, inl, inr, sym, refl, ap, ◌∙◌, subst, arith, lit<}
use Rattle.std.proofs.Math.Nat.{mod-eq_of_lt}
use Rattle.std.proofs.Math.Pow.{pow_mono}
use Rattle.std.proofs.Math.Seq.{take-append_seam}
use Rattle.std.proofs.lemmas.Bool.{and_right, cases_lt, cond-false, eq-eqb, ne_eqb}
use Rattle.std.proofs.lemmas.Grind.{same_number_lists}
use Rattle.std.proofs.lemmas.List.{get_or-append_right, get_or-drop, get_or-set_other, get_or-set_same, get_or-take, get_or_append_left, length-append, length-drop, length-take, take_all, take_more}
use Rattle.std.proofs.lemmas.List.Folds.{find-append}
use Rattle.std.proofs.lemmas.List.FromFn.{get_or-map-range_with_len, length-map-range_with_len}
use Rattle.std.specs.List.{find}
use Rattle.std.specs.Option.{option_or}
use Rattle.code.specs.Codes.{rows, syndrome}
use Rattle.code.specs.Search.{among}
use Rattle.code.proofs.Members.{among_at, place_of}
use Rattle.listings.specs.Lawful.{Patterns}
use Rattle.judge.specs.Decoding.{decoded, leaves, taken, undone}
use Rattle.judge.specs.Tables.{HoldsTable, by_entry, decoding_table, entry_of, filled, flag_entry}
use Rattle.judge.proofs.Decodings.{taken_below}
use Rattle.judge.proofs.Striking.{syndrome_zero}

-- the table with its first patterns written: entry s for those taken so far
abbrev pub written : List ℕ → List ℕ → ℕ → ℕ → ℕ
written cs ps i s = entry_of (taken cs (take i ps) s)

-- no pattern of 63 columns is the entry of a flag
no_flag : (n p : ℕ) → n ≤ 63 → p < 2 ^ n → p ≢ flag_entry
no_flag n p h b e = let most : 2 ^ n ≤ 2 ^ 63 = pow_mono h in let small : 2 ^ 63 < flag_entry = lit< tt in omega arith

-- ---- before any pattern is written

pub written_none : (cs ps : List ℕ) → written cs ps 0 0 ≡ 0
written_none cs ps = ap (λ b. entry_of (cond b (Some 0) None)) (eq-eqb (syndrome cs 0) 0 (syndrome_zero cs))

pub written_flag : (cs ps : List ℕ) (s : ℕ) → 0 < s → written cs ps 0 s ≡ flag_entry
written_flag cs ps s h = ap (λ b. entry_of (cond b (Some 0) None)) (ne_eqb (syndrome cs 0) s (λ e. let z = syndrome_zero cs in absurd (omega arith)))

-- ---- one pattern more

more_taken : (cs ps : List ℕ) (i s : ℕ) → i < length ps → taken cs (take (i + 1) ps) s ≡ option_or (taken cs (take i ps) s) (cond (leaves cs s (get_or ps i 0)) (Some (get_or ps i 0)) None)
more_taken cs ps i s h = ap (λ xs. find (leaves cs s) (0 ∷ xs)) (take_more ps i 0 h) ∙ find-append (leaves cs s) (0 ∷ take i ps) (get_or ps i 0 ∷ [])

taken_fit : (n : ℕ) (ps : List ℕ) (i : ℕ) → Patterns n ps → Patterns n (take i ps)
taken_fit n ps i each p a =
    let k = place_of (take i ps) p a in
    let long = length-take i ps in
    each p (subst (λ x. among ps x ≡ true) (sym (get_or-take i ps k.0 0 (let h = k.1 in omega arith)) ∙ k.2) (among_at ps k.0 (let h = k.1 in omega arith)))

-- the pattern goes to the entry of its syndrome if that still says flag; the entries of other syndromes stay
written_more : (n : ℕ) (cs ps : List ℕ) (i s : ℕ) (here : Bool) → n ≤ 63 → Patterns n ps → i < length ps → leaves cs s (get_or ps i 0) ≡ here
    → written cs ps (i + 1) s ≡ cond (here && eqb (written cs ps i s) flag_entry) (get_or ps i 0) (written cs ps i s)
written_more n cs ps i s here wide each h is = at (taken cs (take i ps) s) refl
  where
    p : ℕ
    p = get_or ps i 0

    more : (o : Option ℕ) → taken cs (take i ps) s ≡ o → written cs ps (i + 1) s ≡ entry_of (option_or o (cond here (Some p) None))
    more o t = ap entry_of (more_taken cs ps i s h ∙ (ap (λ x. option_or x (cond (leaves cs s p) (Some p) None)) t ∙ ap (λ b. option_or o (cond b (Some p) None)) is))

    enter : (b : Bool) → entry_of (cond b (Some p) None) ≡ cond (b && true) p flag_entry
    enter true = refl
    enter false = refl

    at : (o : Option ℕ) → taken cs (take i ps) s ≡ o → written cs ps (i + 1) s ≡ cond (here && eqb (entry_of o) flag_entry) p (entry_of o)
    at None t = more None t ∙ enter here
    at (Some q) t =
        let fits : q < 2 ^ n = taken_below n cs (take i ps) s q (taken_fit n ps i each) t in
        more (Some q) t ∙ sym (cond-false (here && eqb q flag_entry) p q (and_right here (eqb q flag_entry) (ne_eqb q flag_entry (no_flag n q wide fits))))

pub written_here : (n : ℕ) (cs ps : List ℕ) (i s : ℕ) → n ≤ 63 → Patterns n ps → i < length ps → s ≡ syndrome cs (get_or ps i 0)
    → cond (eqb (written cs ps i s) flag_entry) (get_or ps i 0) (written cs ps i s) ≡ written cs ps (i + 1) s
written_here n cs ps i s wide each h e = sym (written_more n cs ps i s true wide each h (eq-eqb _ s (sym e)))

pub written_other : (n : ℕ) (cs ps : List ℕ) (i s : ℕ) → n ≤ 63 → Patterns n ps → i < length ps → s ≢ syndrome cs (get_or ps i 0) → written cs ps i s ≡ written cs ps (i + 1) s
written_other n cs ps i s wide each h ne = sym (written_more n cs ps i s false wide each h (ne_eqb _ s (λ e. ne (sym e))))

-- ---- the whole table

module _ (cs ds ps : List ℕ) where
  table_length : length (decoding_table cs ds ps) ≡ 2 ^ rows cs ds
  table_length = length-map-range_with_len (λ s. entry_of (taken cs ps s)) 0 (2 ^ rows cs ds)

  table_at : (s : ℕ) → s < 2 ^ rows cs ds → get_or (decoding_table cs ds ps) s 0 ≡ entry_of (taken cs ps s)
  table_at s h = get_or-map-range_with_len (λ s. entry_of (taken cs ps s)) 0 (2 ^ rows cs ds) s s 0 h (omega arith)

  -- a slice whose first entries are written and whose later ones stay is filled
  pub all_written : (i : ℕ) (slice old : List ℕ) → length ps ≤ i → 2 ^ rows cs ds ≤ length old → length slice ≡ length old
      → ((s : ℕ) → s < 2 ^ rows cs ds → get_or slice s 0 ≡ written cs ps i s) → ((s : ℕ) → 2 ^ rows cs ds ≤ s → get_or slice s 0 ≡ get_or old s 0)
      → slice ≡ filled cs ds ps old
  all_written i slice old done room same front rest = same_number_lists slice (filled cs ds ps old) long each
    where
      size : ℕ
      size = 2 ^ rows cs ds

      long : length slice ≡ length (filled cs ds ps old)
      long = let a = length-append (decoding_table cs ds ps) (drop size old) in let b = table_length in let d = length-drop size old in omega arith

      each : (k : ℕ) → k < length slice → get_or slice k 0 ≡ get_or (filled cs ds ps old) k 0
      each k h = elim (cases_lt k size) [
        | inl b ↦
            (let len = table_length in
            front k b ∙ (ap (λ xs. entry_of (taken cs xs k)) (take_all i ps done) ∙ (sym (table_at k b) ∙ sym (get_or_append_left (decoding_table cs ds ps) (drop size old) 0 k (omega arith)))))
        | inr b ↦
            (let back : get_or (filled cs ds ps old) k 0 ≡ get_or (drop size old) (k - size) 0 = get_or-append_right (decoding_table cs ds ps) (drop size old) size k 0 table_length b in
            let at : size + (k - size) ≡ k = omega arith in
            rest k b ∙ sym (back ∙ (get_or-drop size old (k - size) 0 ∙ ap (λ x. get_or old x 0) at)))
      ]

  pub filled_begins : (old : List ℕ) → HoldsTable cs ds ps (filled cs ds ps old)
  filled_begins old =
      ap (λ n. take n (filled cs ds ps old)) (sym table_length) ∙ take-append_seam (decoding_table cs ds ps) (drop (2 ^ rows cs ds) old)

  -- ---- decoding by it

  -- a slice that begins with the table has an entry for each syndrome
  pub filled_room : (slice : List ℕ) → HoldsTable cs ds ps slice → 2 ^ rows cs ds ≤ length slice
  filled_room slice f = let a = ap length f in let b = table_length in let c = length-take (2 ^ rows cs ds) slice in omega arith

  filled_at : (slice : List ℕ) (s : ℕ) → HoldsTable cs ds ps slice → s < 2 ^ rows cs ds → get_or slice s 0 ≡ entry_of (taken cs ps s)
  filled_at slice s f h = sym (get_or-take (2 ^ rows cs ds) slice s 0 h) ∙ (ap (λ xs. get_or xs s 0) f ∙ table_at s h)

  -- an entry says of a word what decoding says of it
  entry_says : (n w : ℕ) (o : Option ℕ) → n ≤ 63 → ((p : ℕ) → o ≡ Some p → p < 2 ^ n) → by_entry ds n w (entry_of o) ≡ undone ds w o
  entry_says n w None wide below = refl
  entry_says n w (Some p) wide below =
      let h : p < 2 ^ n = below p refl in
      ap (undone ds w) (cond-false (eqb p flag_entry) None (Some (p % 2 ^ n)) (ne_eqb p flag_entry (no_flag n p wide h)) ∙ ap Some (mod-eq_of_lt h))

  pub table_says : (slice : List ℕ) (w s : ℕ) → length cs ≤ 63 → Patterns (length cs) ps → HoldsTable cs ds ps slice → s < 2 ^ rows cs ds → s ≡ syndrome cs w
      → by_entry ds (length cs) w (get_or slice s 0) ≡ decoded cs ds ps w
  table_says slice w s wide each f h e =
      ap (by_entry ds (length cs) w) (filled_at slice s f h)
      ∙ (entry_says (length cs) w (taken cs ps s) wide (λ p t. taken_below (length cs) cs ps s p each t)
      ∙ ap (λ x. undone ds w (taken cs ps x)) e)

-- ---- what clearing leaves

-- the first entries, cleared but for the first of them, say what is written before any pattern
pub cleared_begins : (cs ps : List ℕ) (count : ℕ) (entries old : List ℕ) (s : ℕ) → length entries ≡ count → s < count → EachIndex entries (λ k. get_or entries k 0 ≡ flag_entry)
    → get_or (set (entries ++ drop count old) 0 0) s 0 ≡ written cs ps 0 s
cleared_begins cs ps count entries old zero long h each =
    get_or-set_same (entries ++ drop count old) 0 0 0 (let a = length-append entries (drop count old) in omega arith) ∙ sym (written_none cs ps)
cleared_begins cs ps count entries old (suc s) long h each =
    get_or-set_other (entries ++ drop count old) 0 (suc s) 0 0 (omega arith)
    ∙ (get_or_append_left entries (drop count old) 0 (suc s) (omega arith) ∙ (each (suc s) (omega arith) ∙ sym (written_flag cs ps (suc s) (omega arith))))

pub cleared_stays : (count : ℕ) (entries old : List ℕ) (s : ℕ) → length entries ≡ count → 0 < count → count ≤ s → get_or (set (entries ++ drop count old) 0 0) s 0 ≡ get_or old s 0
cleared_stays count entries old s long some h =
    let at : count + (s - count) ≡ s = omega arith in
    get_or-set_other (entries ++ drop count old) 0 s 0 0 (omega arith)
    ∙ (get_or-append_right entries (drop count old) count s 0 long h ∙ (get_or-drop count old (s - count) 0 ∙ ap (λ x. get_or old x 0) at))
