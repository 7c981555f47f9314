-- The steps of loops over items, and which items pass an opening.
use Rattle.std.proofs.Common.{◌≡◌, ℕ, zero, suc, ◌+◌, ◌^◌, ◌<◌, ◌≤◌, Bool, true, ◌||◌, eqb, ltb, leb, List, [], ◌∷◌, ◌++◌, length, get_or, drop, None, sym, refl, ap, ◌∙◌, subst, inl, inr, arith}
use Rattle.std.proofs.lemmas.List.{at_drop_more, length-append, length_push}
use Rattle.std.proofs.lemmas.Bool.{and_parts, and_from, eqb-true, false≢true, le-leb, leb-true, ltb-true, or_cases}
use Rattle.std.proofs.lemmas.List.Folds.{list_all-append}
use Rattle.code.specs.Limits.{least_columns, most_columns}
use Rattle.code.specs.Opening.{unless}
use Rattle.code.specs.Search.{among}
use Rattle.code.specs.declared.refusal.Refusal.TheVariants.{OutOfBoundsAt, TooWideAt}
use Rattle.listings.specs.Items.{listing, mixed, good_ones, good_run, good_item, good_items}
use Rattle.listings.specs.Lawful.{Pattern, Patterns}
use Rattle.listings.specs.Limits.{most_items}
use Rattle.listings.specs.declared.item.Item.{Item}
use Rattle.listings.specs.declared.item.Item.TheVariants.{Random, Burst, Mask}
use Rattle.listings.proofs.Members.{among_append}
use Rattle.classes.specs.Opening.{or_else, first_refusal, item_refusal, mask_refusal, mixed_refusal}
use Rattle.classes.proofs.Refusing.{both, passed, refusal_push}

-- ---- which items pass

mask_passes : (n i m : ℕ) → mask_refusal n i m ≡ None → (leb 1 m ≡ true) × (ltb m (2 ^ n) ≡ true)
mask_passes n i m e =
    let p = passed (leb 1 m) (OutOfBoundsAt i) _ e in
    (p.0, (passed (ltb m (2 ^ n)) (TooWideAt i) None p.1).0)

pub masks_pass : (n i : ℕ) (masks : List ℕ) → first_refusal (mask_refusal n) i masks ≡ None → Patterns n masks
masks_pass n i [] e p h = absurd (false≢true h)
masks_pass n i (m ∷ ms) e p h =
    let q = both (mask_refusal n i m) _ e in
    let t = mask_passes n i m q.0 in
    elim (or_cases (eqb m p) (among ms p) h) [
      | inl s ↦ subst (Pattern n) (eqb-true m p s) (leb-true 1 m t.0, ltb-true m (2 ^ n) t.1)
      | inr k ↦ masks_pass n (i + 1) ms q.1 p k
    ]

pub item_passes : (n i : ℕ) (item : Item) → item_refusal n i item ≡ None → good_item n item ≡ true
item_passes n i (Random t) e = (passed (good_ones n t) (OutOfBoundsAt i) None e).0
item_passes n i (Burst l) e = (passed (good_run n l) (OutOfBoundsAt i) None e).0
item_passes n i (Mask m) e = let p = mask_passes n i m e in and_from _ _ p.0 p.1

good_refuses_nothing : (n i : ℕ) (item : Item) → good_item n item ≡ true → item_refusal n i item ≡ None
good_refuses_nothing n i (Random t) g = ap (λ b. unless b (OutOfBoundsAt i) None) g
good_refuses_nothing n i (Burst l) g = ap (λ b. unless b (OutOfBoundsAt i) None) g
good_refuses_nothing n i (Mask m) g =
    let p = and_parts _ _ g in
    ap (λ b. unless b (OutOfBoundsAt i) (unless (ltb m (2 ^ n)) (TooWideAt i) None)) p.0 ∙ ap (λ b. unless b (TooWideAt i) None) p.1

pub items_pass : (n i : ℕ) (items : List Item) → first_refusal (item_refusal n) i items ≡ None → good_items n items ≡ true
items_pass n i [] e = refl
items_pass n i (item ∷ items) e = let p = both (item_refusal n i item) _ e in and_from _ _ (item_passes n i item p.0) (items_pass n (i + 1) items p.1)

pub good_items_pass : (n i : ℕ) (items : List Item) → good_items n items ≡ true → first_refusal (item_refusal n) i items ≡ None
good_items_pass n i [] g = refl
good_items_pass n i (item ∷ items) g =
    let p = and_parts _ _ g in
    ap (λ o. or_else o (first_refusal (item_refusal n) (i + 1) items)) (good_refuses_nothing n i item p.0) ∙ good_items_pass n (i + 1) items p.1

pub good_push : (n : ℕ) (items : List Item) (item : Item) → good_items n items ≡ true → good_item n item ≡ true → good_items n (items ++ (item ∷ [])) ≡ true
good_push n items item g h = list_all-append (good_item n) items (item ∷ []) ∙ and_from _ _ g (and_from _ _ h refl)

-- what opening says of items that pass and one more
pub one_more : (n : ℕ) (items : List Item) (item : Item) → least_columns ≤ n → n ≤ most_columns → length items < most_items → good_items n items ≡ true
    → mixed_refusal n (items ++ (item ∷ [])) ≡ item_refusal n (length items) item
one_more n items item a b f g =
    let m = length_push items item in
    let here : first_refusal (item_refusal n) 0 (items ++ (item ∷ [])) ≡ item_refusal n (length items) item
    = refusal_push (item_refusal n) 0 (length items) items item (omega arith) (good_items_pass n 0 items g) in
    rw (le-leb least_columns n a, le-leb n most_columns b, le-leb (length (items ++ (item ∷ []))) most_items (omega arith)) here

pub good_at : (n : ℕ) (items : List Item) (i : ℕ) (d : Item) → i < length items → good_items n items ≡ true → good_item n (get_or items i d) ≡ true
good_at n [] i d h g = absurd (omega arith)
good_at n (x ∷ xs) zero d h g = (and_parts _ _ g).0
good_at n (x ∷ xs) (suc i) d h g = good_at n xs i d (omega arith) (and_parts _ _ g).1

-- the same of the items as a class lends them
pub lent_good : (n : ℕ) (items kept : List Item) (i : ℕ) (d : Item) → items ≡ kept → i < length items → good_items n kept ≡ true → good_item n (get_or items i d) ≡ true
lent_good n items kept i d e h g = good_at n items i d h (subst (λ xs. good_items n xs ≡ true) (sym e) g)

-- ---- how many patterns

mixed_more : (n : ℕ) (items : List Item) (i : ℕ) (d : Item) → i < length items → mixed n (drop i items) ≡ listing n (get_or items i d) ++ mixed n (drop (i + 1) items)
mixed_more n items i d h = at_drop_more (mixed n) items i d h

pub count_more : (n : ℕ) (items : List Item) (i total count all : ℕ) (d : Item) → i < length items → count ≡ length (listing n (get_or items i d))
    → total + length (mixed n (drop i items)) ≡ all → total + count + length (mixed n (drop (i + 1) items)) ≡ all
count_more n items i total count all d h c inv =
    let e = ap length (mixed_more n items i d h) in
    let l = length-append (listing n (get_or items i d)) (mixed n (drop (i + 1) items)) in omega arith

-- ---- which masks are listed

pub holds_more : (n : ℕ) (items : List Item) (i m : ℕ) (d : Item) (t : Bool) → i < length items → t ≡ among (listing n (get_or items i d)) m
    → among (mixed n (drop i items)) m ≡ (t || among (mixed n (drop (i + 1) items)) m)
holds_more n items i m d t h e =
    ap (λ ps. among ps m) (mixed_more n items i d h)
    ∙ (among_append (listing n (get_or items i d)) (mixed n (drop (i + 1) items)) m ∙ ap (λ b. b || among (mixed n (drop (i + 1) items)) m) (sym e))
