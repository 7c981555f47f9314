-- What the classes mean, each by its width and its listing. And what their openings answer.
use Rattle.std.specs.Prelude.{◌≡◌, ℕ, List, Some, None, Ok, Err, Result}
use Rattle.code.specs.declared.refusal.Refusal.{Refusal}
use Rattle.code.specs.Shorts.{kept}
use Rattle.listings.specs.Items.{mixed}
use Rattle.listings.specs.Listings.{random, burst}
use Rattle.listings.specs.declared.item.Item.{Item}
use Rattle.classes.specs.Opening.{random_refusal, burst_refusal, mixed_refusal}
use Rattle.classes.specs.declared.burst.Burst.{Burst}
use Rattle.classes.specs.declared.mixed.Mixed.{Mixed}
use Rattle.classes.specs.declared.random.Random.{Random}

abbrev pub words_of : Random → List ℕ
words_of c = random c.width.columns c.ones

-- a class of this width and this listing where nothing is refused, else the first refusal
abbrev pub RandomOpened : ℕ → ℕ → Result Random Refusal → Type 0
RandomOpened n t (Ok c) = (random_refusal n t ≡ None) × (c.width.columns ≡ n) × (words_of c ≡ random n t)
RandomOpened n t (Err e) = random_refusal n t ≡ Some e

abbrev pub runs_of : Burst → List ℕ
runs_of c = burst c.width.columns c.size

abbrev pub BurstOpened : ℕ → ℕ → Result Burst Refusal → Type 0
BurstOpened n l (Ok c) = (burst_refusal n l ≡ None) × (c.width.columns ≡ n) × (runs_of c ≡ burst n l)
BurstOpened n l (Err e) = burst_refusal n l ≡ Some e

abbrev pub width_of : Mixed → ℕ
width_of c = c.width.columns

abbrev pub items_of : Mixed → List Item
items_of c = kept c.items

abbrev pub patterns_of : Mixed → List ℕ
patterns_of c = mixed (width_of c) (items_of c)

abbrev pub MixedOpened : ℕ → List Item → Result Mixed Refusal → Type 0
MixedOpened n items (Ok c) = (mixed_refusal n items ≡ None) × (width_of c ≡ n) × (items_of c ≡ items)
MixedOpened n items (Err e) = mixed_refusal n items ≡ Some e
