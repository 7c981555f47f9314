-- Mixed errors: what items list, one after the other, is a class's listing.
use Rattle.std.proofs.Common.{◌≡◌, ℕ, ◌*◌, ◌^◌, ◌≤◌, true, eqb, List, [], ◌∷◌, length, subst, inl, inr, arith}
use Rattle.std.proofs.lemmas.List.{length-append}
use Rattle.std.proofs.lemmas.Bool.{and_parts, eqb-true, false≢true, leb-true, ltb-true, or_cases}
use Rattle.code.specs.Limits.{least_columns, most_columns}
use Rattle.listings.specs.Items.{listing, mixed, good_size, good_item, good_items}
use Rattle.listings.specs.Lawful.{Lawful, Pattern, Patterns}
use Rattle.listings.specs.Limits.{most_ones, least_run, most_run, most_items, most_patterns}
use Rattle.listings.specs.declared.item.Item.{Item}
use Rattle.listings.specs.declared.item.Item.TheVariants.{Random, Burst, Mask}
use Rattle.listings.proofs.BurstRuns.{burst_each, burst_few}
use Rattle.listings.proofs.Choosing.{eighth}
use Rattle.listings.proofs.Members.{append_cases}
use Rattle.listings.proofs.RandomWords.{random_each, random_few}

pub record Sized (least most n k : ℕ) : Type 0 where
  pub some : least ≤ k
  pub few : k ≤ most
  pub fit : k ≤ n

pub sized : (least most n k : ℕ) → good_size least most n k ≡ true → Sized least most n k
sized least most n k e =
    let p = and_parts _ _ e in
    let q = and_parts _ _ p.1 in
    record { some = leb-true least k p.0; few = leb-true k most q.0; fit = leb-true k n q.1 }

item_few : (n : ℕ) (item : Item) → n ≤ most_columns → good_item n item ≡ true → length (listing n item) ≤ eighth
item_few n (Random t) h g = random_few n t h (sized 1 most_ones n t g).few
item_few n (Burst l) h g = burst_few n l h
item_few n (Mask m) h g = omega arith

item_each : (n : ℕ) (item : Item) → good_item n item ≡ true → Patterns n (listing n item)
item_each n (Random t) g p h = random_each n t (sized 1 most_ones n t g).some p h
item_each n (Burst l) g p h = let r = sized least_run most_run n l g in burst_each n l (omega (arith, r.some)) r.fit p h
item_each n (Mask m) g p h = elim (or_cases (eqb m p) _ h) [
  | inl e ↦ (let q = and_parts _ _ g in subst (Pattern n) (eqb-true m p e) (leb-true 1 m q.0, ltb-true m (2 ^ n) q.1))
  | inr f ↦ absurd (false≢true f)
]

items_few : (n : ℕ) (items : List Item) → n ≤ most_columns → good_items n items ≡ true → length (mixed n items) ≤ length items * eighth
items_few n [] h g = omega arith
items_few n (item ∷ items) h g =
    let p = and_parts _ _ g in
    let a = item_few n item h p.0 in
    let b = items_few n items h p.1 in
    let e = length-append (listing n item) (mixed n items) in omega arith

items_each : (n : ℕ) (items : List Item) → good_items n items ≡ true → Patterns n (mixed n items)
items_each n [] g p h = absurd (false≢true h)
items_each n (item ∷ items) g p h =
    let q = and_parts _ _ g in
    elim (append_cases (listing n item) (mixed n items) p h) [ inl k ↦ item_each n item q.0 p k | inr k ↦ items_each n items q.1 p k ]

pub mixed_few : (n : ℕ) (items : List Item) → n ≤ most_columns → length items ≤ most_items → good_items n items ≡ true → length (mixed n items) ≤ most_patterns
mixed_few n items h f g = let m = items_few n items h g in omega arith

-- what one item lists is a class's listing
pub item_lawful : (n : ℕ) (item : Item) → least_columns ≤ n → n ≤ most_columns → good_item n item ≡ true → Lawful n (listing n item)
item_lawful n item a b g = record { low = a; high = b; few = (let e = item_few n item b g in omega arith); each = item_each n item g }

-- and so is what some items list
pub mixed_lawful : (n : ℕ) (items : List Item) → least_columns ≤ n → n ≤ most_columns → length items ≤ most_items → good_items n items ≡ true → Lawful n (mixed n items)
mixed_lawful n items a b f g = record { low = a; high = b; few = mixed_few n items b f g; each = items_each n items g }
