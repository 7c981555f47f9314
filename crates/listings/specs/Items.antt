-- What items list in a word of n bits, which items there may be, and what they are called.
use Rattle.std.specs.Prelude.{ℕ, ◌^◌, Bool, ◌&&◌, List, [], ◌∷◌, ◌++◌, codes, decimal, nat_le, nat_lt}
use Rattle.std.specs.List.{flat_map, list_all}
use Rattle.listings.specs.Limits.{most_ones, least_run, most_run}
use Rattle.listings.specs.Listings.{random, burst}
use Rattle.listings.specs.declared.item.Item.{Item}
use Rattle.listings.specs.declared.item.Item.TheVariants.{Random, Burst, Mask}

abbrev pub listing : ℕ → Item → List ℕ
listing n (Random t) = random n t
listing n (Burst l) = burst n l
listing n (Mask m) = m ∷ []

-- what the items list, one after the other
abbrev pub mixed : ℕ → List Item → List ℕ
mixed n items = flat_map (listing n) items

-- a size from least to most, and no more than n
abbrev pub good_size : ℕ → ℕ → ℕ → ℕ → Bool
good_size least most n k = nat_le least k && (nat_le k most && nat_le k n)

-- so many ones may be named
abbrev pub good_ones : ℕ → ℕ → Bool
good_ones n t = good_size 1 most_ones n t

-- runs of so many ones may be named
abbrev pub good_run : ℕ → ℕ → Bool
good_run n l = good_size least_run most_run n l

abbrev pub good_item : ℕ → Item → Bool
good_item n (Random t) = good_ones n t
good_item n (Burst l) = good_run n l
good_item n (Mask m) = nat_le 1 m && nat_lt m (2 ^ n)

abbrev pub good_items : ℕ → List Item → Bool
good_items n items = list_all (good_item n) items

-- an item as the lab's script names it
abbrev pub item_name : Item → List ℕ
item_name (Random t) = codes "random " ++ decimal t
item_name (Burst l) = codes "burst " ++ decimal l
item_name (Mask m) = codes "mask " ++ decimal m
