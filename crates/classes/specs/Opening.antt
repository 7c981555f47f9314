-- What opening a class of n bits refuses: the width first, then a count, then the masks or items in their order.
use Rattle.std.specs.Prelude.{◌≡◌, ℕ, ◌+◌, ◌^◌, ◌<◌, ◌≤◌, Bool, ◌&&◌, ◌⊎◌, List, [], ◌∷◌, length, Some, None, Option, nat_le, nat_lt, slice_index_or}
use Rattle.code.specs.Limits.{least_columns, most_columns}
use Rattle.code.specs.Opening.{unless}
use Rattle.code.specs.declared.refusal.Refusal.{Refusal}
use Rattle.code.specs.declared.refusal.Refusal.TheVariants.{OutOfBounds, OutOfBoundsAt, TooWideAt}
use Rattle.listings.specs.Limits.{most_patterns, most_items}
use Rattle.listings.specs.Items.{good_ones, good_run}
use Rattle.listings.specs.declared.item.Item.{Item}
use Rattle.listings.specs.declared.item.Item.TheVariants.{Random, Burst, Mask}

abbrev pub good_width : ℕ → Bool
good_width n = nat_le least_columns n && nat_le n most_columns

abbrev pub random_refusal : ℕ → ℕ → Option Refusal
random_refusal n t = unless (good_width n) OutOfBounds (unless (good_ones n t) OutOfBounds None)

abbrev pub burst_refusal : ℕ → ℕ → Option Refusal
burst_refusal n l = unless (good_width n) OutOfBounds (unless (good_run n l) OutOfBounds None)

-- the refusal of the mask m at the index i: no column is flipped, or one beyond the width
abbrev pub mask_refusal : ℕ → ℕ → ℕ → Option Refusal
mask_refusal n i m = unless (nat_le 1 m) (OutOfBoundsAt i) (unless (nat_lt m (2 ^ n)) (TooWideAt i) None)

abbrev pub item_refusal : ℕ → ℕ → Item → Option Refusal
item_refusal n i (Random t) = unless (good_ones n t) (OutOfBoundsAt i) None
item_refusal n i (Burst l) = unless (good_run n l) (OutOfBoundsAt i) None
item_refusal n i (Mask m) = mask_refusal n i m

abbrev pub or_else : Option Refusal → Option Refusal → Option Refusal
or_else None later = later
or_else (Some e) later = Some e

-- the first refusal of elements, the first of them at the index i
abbrev pub first_refusal : {X : Type 0} → (ℕ → X → Option Refusal) → ℕ → List X → Option Refusal
first_refusal refusal i [] = None
first_refusal refusal i (x ∷ xs) = or_else (refusal i x) (first_refusal refusal (i + 1) xs)

-- what an opening with at most `most` elements refuses
abbrev pub elements_refusal : {X : Type 0} → ℕ → (ℕ → X → Option Refusal) → ℕ → List X → Option Refusal
elements_refusal most refusal n xs = unless (good_width n) OutOfBounds (unless (nat_le (length xs) most) OutOfBounds (first_refusal refusal 0 xs))

abbrev pub listed_refusal : ℕ → List ℕ → Option Refusal
listed_refusal n masks = elements_refusal most_patterns (mask_refusal n) n masks

abbrev pub mixed_refusal : ℕ → List Item → Option Refusal
mixed_refusal n items = elements_refusal most_items (item_refusal n) n items

-- ---- the same in words

-- the width and the count of elements are in their bounds
abbrev pub Fit : ℕ → ℕ → ℕ → Type 0
Fit n count most = (least_columns ≤ n) × (n ≤ most_columns) × (count ≤ most)

-- the element at some index is refused with e, and none before it is refused
abbrev pub FirstRefused : {X : Type 0} → (ℕ → X → Option Refusal) → List X → Refusal → Type 0
FirstRefused {X} refusal xs e = (i : ℕ) × (i < length xs) × ((d : X) → refusal i (slice_index_or xs i d) ≡ Some e) × ((j : ℕ) (d : X) → j < i → refusal j (slice_index_or xs j d) ≡ None)

-- what an opening with at most `most` elements refuses: 2 with no index where the width or the count is out of bounds, else what its first refused element says; nothing, only where each element passes
abbrev pub Tells : {X : Type 0} → ℕ → ℕ → (ℕ → X → Option Refusal) → List X → Option Refusal → Type 0
Tells {X} n most refusal xs None = Fit n (length xs) most × ((i : ℕ) (d : X) → i < length xs → refusal i (slice_index_or xs i d) ≡ None)
Tells n most refusal xs (Some e) = ((Fit n (length xs) most → ⊥) × (e ≡ OutOfBounds)) ⊎ (Fit n (length xs) most × FirstRefused refusal xs e)
