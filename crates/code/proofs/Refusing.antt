-- The refusal that is computed is the one that the words of the refusals say.
use Rattle.std.proofs.Common.{◌≡◌, ℕ, zero, suc, ◌^◌, ◌<◌, ◌≤◌, Bool, true, false, ◌&&◌, ltb, leb, ◌⊎◌, List, length, get_or, Some, None, Option, refl, ap, ◌∙◌, inl, inr, arith}
use Rattle.std.proofs.lemmas.Bool.{cases_Bool, cases_order, lt-ltb, le-ltb, le-leb, lt-leb, ltb-true, leb-true, and_parts, and_from, and_left, and_right, not_from_true, not_from_false}
use Rattle.code.specs.Limits.{least_columns, most_columns, most_checks}
use Rattle.code.specs.Search.{least}
use Rattle.code.specs.Codes.{rows, Shape, Rising, Narrow, Wellformed}
use Rattle.code.specs.Opening.{floor, GoodColumn, GoodColumns, Refused, bad_column, high_value, units, unless, found_at, refusal}
use Rattle.code.specs.declared.refusal.Refusal.{Refusal}
use Rattle.code.specs.declared.refusal.Refusal.TheVariants.{ColumnCount, OutOfBounds, OutOfBoundsAt, DataColumn, ColumnValue, NotUnits, CorrectableClash, DetectableClash, WidthsDiffer, BeyondEnd, TooWide, TooWideAt, LostCell, ShortTable, CampaignFull}
use Rattle.code.proofs.Searching.{first_least}
use Rattle.code.proofs.Units.{units_computed, computed_units}

-- each number above the one before: any above any before
pub rising_from : (n : ℕ) (ds : List ℕ) → ((i : ℕ) → i < length ds → GoodColumn n ds i) → Rising ds
rising_from n ds good i zero l h = absurd (omega arith)
rising_from n ds good i (suc j) l h =
    let step = (good (suc j) h).1 in
    elim (cases_order i j) [
      | inl e ↦ (let s : get_or ds i 0 ≡ get_or ds j 0 = ap (λ x. get_or ds x 0) e in omega arith)
      | inr o ↦ elim o [ inl k ↦ (let s = rising_from n ds good i j k (omega arith) in omega arith) | inr k ↦ absurd (omega arith) ]
    ]

good_from : (n : ℕ) (ds : List ℕ) → ((i : ℕ) → i < length ds → get_or ds i 0 < n) → Rising ds → (i : ℕ) → i < length ds → GoodColumn n ds i
good_from n ds inside rising zero h = (inside 0 h, omega arith)
good_from n ds inside rising (suc i) h = (inside (suc i) h, omega (arith, rising i (suc i) (omega arith) h))

-- the five tests in a row
abbrev chain : Bool → Bool → Option ℕ → Option ℕ → Bool → Option Refusal
chain a b c d e = unless a ColumnCount (unless b OutOfBounds (found_at c DataColumn (found_at d ColumnValue (unless e NotUnits None))))

module _ (cs ds : List ℕ) where
  abbrev count_fits : Bool
  count_fits = leb least_columns (length cs) && leb (length cs) most_columns

  abbrev data_fits : Bool
  data_fits = leb 1 (length ds) && (ltb (length ds) (length cs) && leb (rows cs ds) most_checks)

  abbrev bad_place : Option ℕ
  bad_place = least (bad_column (length cs) ds) 0 (length ds)

  abbrev high_place : Option ℕ
  high_place = least (high_value (rows cs ds) cs) 0 (length cs)

  counted : least_columns ≤ length cs → length cs ≤ most_columns → count_fits ≡ true
  counted a b = and_from (leb least_columns (length cs)) (leb (length cs) most_columns) (le-leb least_columns (length cs) a) (le-leb (length cs) most_columns b)

  shaped : Shape (length cs) (length ds) → (count_fits ≡ true) × (data_fits ≡ true)
  shaped s = (
    counted s.0 s.1,
    and_from (leb 1 (length ds)) (ltb (length ds) (length cs) && leb (rows cs ds) most_checks) (le-leb 1 (length ds) s.2)
        (and_from (ltb (length ds) (length cs)) (leb (rows cs ds) most_checks) (lt-ltb (length ds) (length cs) s.3) (le-leb (rows cs ds) most_checks s.4)),
  )

  good_passes : (i : ℕ) → GoodColumn (length cs) ds i → bad_column (length cs) ds i ≡ false
  good_passes i g = not_from_true _ (and_from (ltb (get_or ds i 0) (length cs)) (leb (floor ds i) (get_or ds i 0)) (lt-ltb (get_or ds i 0) (length cs) g.0) (le-leb (floor ds i) (get_or ds i 0) g.1))

  bad_fails : (i : ℕ) → (GoodColumn (length cs) ds i → ⊥) → bad_column (length cs) ds i ≡ true
  bad_fails i f = let test = ltb (get_or ds i 0) (length cs) && leb (floor ds i) (get_or ds i 0) in
      not_from_false test (elim (cases_Bool test) [
        | inl t ↦ (let p = and_parts (ltb (get_or ds i 0) (length cs)) (leb (floor ds i) (get_or ds i 0)) t in
            absurd (f (ltb-true (get_or ds i 0) (length cs) p.0, leb-true (floor ds i) (get_or ds i 0) p.1)))
        | inr e ↦ e
      ])

  none_bad : GoodColumns cs ds (length ds) → bad_place ≡ None
  none_bad g = first_least (bad_column (length cs) ds) (length ds) None (λ i a b. good_passes i (g i b))

  none_high : Narrow cs ds → high_place ≡ None
  none_high narrow = first_least (high_value (rows cs ds) cs) (length cs) None (λ j a b. lt-leb (2 ^ rows cs ds) (get_or cs j 0) (narrow j b))

  -- the tests one after the other
  pub chained : (a b : Bool) (c d : Option ℕ) (e : Bool) → count_fits ≡ a → data_fits ≡ b → bad_place ≡ c → high_place ≡ d → units cs ds ≡ e → refusal cs ds ≡ chain a b c d e
  chained a b c d e p q r s t =
      ap (λ x. chain x data_fits bad_place high_place (units cs ds)) p
      ∙ (ap (λ x. chain a x bad_place high_place (units cs ds)) q
      ∙ (ap (λ x. chain a b x high_place (units cs ds)) r
      ∙ (ap (λ x. chain a b c x (units cs ds)) s ∙ ap (chain a b c d) t)))

  pub wellformed_opens : Wellformed cs ds → refusal cs ds ≡ None
  wellformed_opens w = let s = shaped w.shape in
      chained true true None None true s.0 s.1 (none_bad (good_from (length cs) ds w.inside w.rising)) (none_high w.narrow) (units_computed cs ds w.units)

  pub refused_says : (e : Refusal) → Refused cs ds e → refusal cs ds ≡ Some e
  refused_says ColumnCount (inl l) =
      chained false data_fits bad_place high_place (units cs ds) (and_left (leb least_columns (length cs)) (leb (length cs) most_columns) (lt-leb least_columns (length cs) l)) refl refl refl refl
  refused_says ColumnCount (inr l) =
      chained false data_fits bad_place high_place (units cs ds) (and_right (leb least_columns (length cs)) (leb (length cs) most_columns) (lt-leb (length cs) most_columns l)) refl refl refl refl
  refused_says OutOfBounds p =
      chained true false bad_place high_place (units cs ds) (counted p.0 p.1) (outside p.2) refl refl refl
    where
      outside : (length ds < 1) ⊎ ((length cs ≤ length ds) ⊎ (most_checks < rows cs ds)) → data_fits ≡ false
      outside (inl l) = and_left (leb 1 (length ds)) (ltb (length ds) (length cs) && leb (rows cs ds) most_checks) (lt-leb 1 (length ds) l)
      outside (inr (inl l)) = and_right (leb 1 (length ds)) (ltb (length ds) (length cs) && leb (rows cs ds) most_checks)
          (and_left (ltb (length ds) (length cs)) (leb (rows cs ds) most_checks) (le-ltb (length ds) (length cs) l))
      outside (inr (inr l)) = and_right (leb 1 (length ds)) (ltb (length ds) (length cs) && leb (rows cs ds) most_checks)
          (and_right (ltb (length ds) (length cs)) (leb (rows cs ds) most_checks) (lt-leb (rows cs ds) most_checks l))
  refused_says (DataColumn i) p = let s = shaped p.0 in
      chained true true (Some i) high_place (units cs ds) s.0 s.1
      (first_least (bad_column (length cs) ds) (length ds) (Some i) (omega arith, p.1, bad_fails i p.2, λ j a b. good_passes j (p.3 j b))) refl refl
  refused_says (ColumnValue j) p = let s = shaped p.0 in
      chained true true None (Some j) (units cs ds) s.0 s.1 (none_bad p.1)
      (first_least (high_value (rows cs ds) cs) (length cs) (Some j) (omega arith, p.2, le-leb (2 ^ rows cs ds) (get_or cs j 0) p.3, λ i a b. lt-leb (2 ^ rows cs ds) (get_or cs i 0) (p.4 i b))) refl
  refused_says NotUnits p = let s = shaped p.0 in
      chained true true None None false s.0 s.1 (none_bad p.1) (none_high p.2)
      (elim (cases_Bool (units cs ds)) [ inl t ↦ absurd (p.3 (computed_units cs ds t)) | inr e ↦ e ])
  refused_says (OutOfBoundsAt i) p = absurd p
  refused_says (CorrectableClash c) p = absurd p
  refused_says (DetectableClash c) p = absurd p
  refused_says WidthsDiffer p = absurd p
  refused_says BeyondEnd p = absurd p
  refused_says TooWide p = absurd p
  refused_says (TooWideAt i) p = absurd p
  refused_says LostCell p = absurd p
  refused_says ShortTable p = absurd p
  refused_says CampaignFull p = absurd p
