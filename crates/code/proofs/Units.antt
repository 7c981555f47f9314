-- The check columns by their rows: as a list that a code value holds, as the definitions compute it, and as the relation says it.
use Rattle.std.proofs.Common.{◌≡◌, ℕ, ◌+◌, ◌^◌, ◌<◌, true, false, not, ◌||◌, eqb, List, map, length, get_or, Some, None, Option, unwrap_or, sym, refl, ap, ◌∙◌, subst, inl, inr, arith}
use Rattle.std.specs.List.{range_with_len}
use Rattle.std.proofs.lemmas.Bool.{cases_Bool, both_ways, true≢false, eqb-true, eq-eqb, not-true, not-false, not_from_true, not_from_false, and_parts, and_from, or_cases, or_left, or_right}
use Rattle.std.proofs.lemmas.List.{length-map, get_or-map, ext_get_or}
use Rattle.std.proofs.lemmas.List.FromFn.{length-map-range_with_len, get_or-map-range_with_len}
use Rattle.code.specs.Words.{unit}
use Rattle.code.specs.Search.{least, is_none, among}
use Rattle.code.specs.Codes.{rows, Check, Units, Row, Covered, Wellformed, holds, check_column, check_columns}
use Rattle.code.specs.Opening.{bare_row, spare_column, units}
use Rattle.code.proofs.Bits.{pow_injective}
use Rattle.code.proofs.Searching.{First, least_first, none_fails, fails_none}
use Rattle.code.proofs.Members.{place_of, beside, not_among, is_among, distinct_from}
use Rattle.code.proofs.Systematic.{Systematic}

-- us names a check column for each row
abbrev pub Located : List ℕ → List ℕ → List ℕ → Type 0
Located cs ds us = (length us ≡ rows cs ds) × ((i : ℕ) → i < length us → Row cs ds us i)

-- u is a check column that holds the unit of row i
abbrev pub RowAt : List ℕ → List ℕ → ℕ → ℕ → Type 0
RowAt cs ds i u = Check cs ds u × (get_or cs u 0 ≡ 2 ^ i)

module _ (cs ds : List ℕ) where
  -- ---- a located list that leaves no check column out is the relation

  pub units_from : (us : List ℕ) → Located cs ds us → Covered cs ds us → Units cs ds
  units_from us l covered = record {
    some_unit = λ j c. let p = row j c in (p.0, subst (λ x. p.0 < x) l.0 p.1, ap (λ x. get_or cs x 0) (sym p.2) ∙ (l.1 p.0 p.1).1);
    some_check = λ i h. let k : i < length us = omega (arith, l.0) in (get_or us i 0, (l.1 i k).0, (l.1 i k).1);
    once = λ i j a b e.
        let p = row i a in
        let q = row j b in
        let same : p.0 ≡ q.0 = pow_injective p.0 q.0
        (sym (l.1 p.0 p.1).1 ∙ (ap (λ x. get_or cs x 0) p.2 ∙ (e ∙ (sym (ap (λ x. get_or cs x 0) q.2) ∙ (l.1 q.0 q.1).1)))) in
        sym p.2 ∙ (ap (λ x. get_or us x 0) same ∙ q.2);
  }
    where
      row : (j : ℕ) → Check cs ds j → (i : ℕ) × (i < length us) × (get_or us i 0 ≡ j)
      row j c = place_of us j (is_among us j (covered j c.0 c.1))

  pub covered_from : (us : List ℕ) → Units cs ds → Located cs ds us → Covered cs ds us
  covered_from us w l j h b a =
      let u = w.some_unit j (h, b) in
      let k : u.0 < length us = subst (λ x. u.0 < x) (sym l.0) u.1 in
      let v = l.1 u.0 k in
      a u.0 k (w.once (get_or us u.0 0) j v.0 (h, b) (v.1 ∙ sym u.2))

  -- two located lists are one
  pub located_same : (us vs : List ℕ) → Units cs ds → Located cs ds us → Located cs ds vs → us ≡ vs
  located_same us vs w l m = ext_get_or 0 us vs (l.0 ∙ sym m.0)
      (λ i h. let k : i < length vs = omega (arith, l.0, m.0) in
      w.once (get_or us i 0) (get_or vs i 0) (l.1 i h).0 (m.1 i k).0 ((l.1 i h).1 ∙ sym (m.1 i k).1))

  -- ---- what is computed

  holds_check : (v j : ℕ) → j < length cs → holds cs ds v j ≡ true → Check cs ds j × (get_or cs j 0 ≡ v)
  holds_check v j h e = let p = and_parts (not (among ds j)) (eqb (get_or cs j 0) v) e in
      ((h, beside ds j (not-true (among ds j) p.0)), eqb-true (get_or cs j 0) v p.1)

  check_holds : (v j : ℕ) → Check cs ds j → get_or cs j 0 ≡ v → holds cs ds v j ≡ true
  check_holds v j c e = and_from (not (among ds j)) (eqb (get_or cs j 0) v) (not_from_false (among ds j) (not_among ds j c.1)) (eq-eqb (get_or cs j 0) v e)

  check_at : (i : ℕ) → i < rows cs ds → get_or (check_columns cs ds) i 0 ≡ unwrap_or (check_column cs ds i) 0
  check_at i h = get_or-map-range_with_len (λ t. unwrap_or (check_column cs ds t) 0) 0 (rows cs ds) i i 0 h (omega arith)

  -- where no row is bare, the computed list is located
  pub computed_located : ((i : ℕ) → i < rows cs ds → bare_row cs ds i ≡ false) → Located cs ds (check_columns cs ds)
  computed_located f =
      let many : length (check_columns cs ds) ≡ rows cs ds = length-map-range_with_len (λ t. unwrap_or (check_column cs ds t) 0) 0 (rows cs ds) in (
        many,
        λ i h. let k : i < rows cs ds = omega arith in
            subst (RowAt cs ds i) (sym (check_at i k)) (at i (check_column cs ds i) (f i k) (least_first (holds cs ds (2 ^ i)) 0 (length cs))),
      )
    where
      at : (i : ℕ) (o : Option ℕ) → is_none o ≡ false → First (holds cs ds (2 ^ i)) 0 (0 + length cs) o → RowAt cs ds i (unwrap_or o 0)
      at i None e p = absurd (true≢false e)
      at i (Some j) e p = holds_check (2 ^ i) j (omega (arith, p.1)) p.2

  -- a row that has a check column is not bare
  pub not_bare : Units cs ds → (i : ℕ) → i < rows cs ds → bare_row cs ds i ≡ false
  not_bare w i h = at (check_column cs ds i) (least_first (holds cs ds (2 ^ i)) 0 (length cs))
    where
      at : (o : Option ℕ) → First (holds cs ds (2 ^ i)) 0 (0 + length cs) o → is_none o ≡ false
      at None p = let u = w.some_check i h in
          absurd (both_ways (holds cs ds (2 ^ i) u.0) (p u.0 (omega arith) (omega (arith, u.1.0))) (check_holds (2 ^ i) u.0 u.1 u.2))
      at (Some j) p = refl

  pub units_computed : Units cs ds → units cs ds ≡ true
  units_computed w =
      and_from (is_none (least (bare_row cs ds) 0 (rows cs ds))) (is_none (least (spare_column cs ds) 0 (length cs)))
      (fails_none (bare_row cs ds) (rows cs ds) (not_bare w))
      (fails_none (spare_column cs ds) (length cs) (λ j h. not_from_true (among ds j || among (check_columns cs ds) j) (elim (cases_Bool (among ds j)) [
        | inl e ↦ or_left (among ds j) (among (check_columns cs ds) j) e
        | inr e ↦ or_right (among ds j) (among (check_columns cs ds) j) (is_among (check_columns cs ds) j
            (covered_from (check_columns cs ds) w (computed_located (not_bare w)) j h (beside ds j e)))
      ])))

  pub computed_units : units cs ds ≡ true → Units cs ds
  computed_units e =
      let p = and_parts (is_none (least (bare_row cs ds) 0 (rows cs ds))) (is_none (least (spare_column cs ds) 0 (length cs))) e in
      units_from (check_columns cs ds) (computed_located (none_fails (bare_row cs ds) (rows cs ds) p.0))
      (λ j h a b. elim (or_cases (among ds j) (among (check_columns cs ds) j) (not-false _ (none_fails (spare_column cs ds) (length cs) p.1 j h))) [
        | inl t ↦ both_ways (among ds j) (not_among ds j a) t
        | inr t ↦ both_ways (among (check_columns cs ds) j) (not_among (check_columns cs ds) j b) t
      ])

  -- ---- a well-formed code is systematic

  pub systematic : Wellformed cs ds → Systematic cs ds (check_columns cs ds)
  systematic w = record {
    data_distinct = distinct_from ds (λ i j a b e. let k = w.rising i j a b in omega arith);
    check_distinct = distinct_from us (λ i j a b e.
        let p : i ≡ j = pow_injective i j (sym (l.1 i (omega arith)).1 ∙ (ap (λ x. get_or cs x 0) e ∙ (l.1 j b).1)) in omega arith);
    data_inside = w.inside;
    checks_inside = λ i h. (l.1 i h).0.0;
    apart = λ j e. not_among us j (λ i h p. (l.1 i h).0.1 (place_of ds j e).0 (place_of ds j e).1 ((place_of ds j e).2 ∙ sym p));
    cover = λ j h e. is_among us j (covered_from us w.units l j h (beside ds j e));
    values = ext_get_or 0 (map (λ j. get_or cs j 0) us) (map unit (range_with_len 0 (length us)))
        (length-map us (λ j. get_or cs j 0) ∙ sym (length-map-range_with_len unit 0 (length us)))
        (λ i h. let k : i < length us = subst (λ x. i < x) (length-map us (λ j. get_or cs j 0)) h in
        get_or-map (λ j. get_or cs j 0) us i 0 0 k ∙ ((l.1 i k).1 ∙ sym (get_or-map-range_with_len unit 0 (length us) i i 0 k (omega arith))));
    narrow = λ j h. subst (λ x. get_or cs j 0 < 2 ^ x) (sym l.0) (w.narrow j h);
  }
    where
      us : List ℕ
      us = check_columns cs ds

      l : Located cs ds us
      l = computed_located (not_bare w.units)
