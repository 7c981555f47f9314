use Rattle.std.proofs.Common.{◌≡◌, ℕ, ◌+◌, ◌*◌, ◌^◌, ◌<◌, ◌≤◌, List, [], ◌∷◌, ◌++◌, length, sym, ap, ◌∙◌, append_assoc, length-append, arith, lt_of_lt_of_le, pow_mono}
use Rattle.std.specs.Slice.Iter.{iter_rest}
use Rattle.std.specs.Iterator.Adapters.{rev_source}
use Rattle.std.proofs.lemmas.List.{nil_from_length}
use Rattle.code.specs.Words.{bit, gather}
use Rattle.code.proofs.Gathering.{gather_lt}
use Rattle.code.proofs.words.gathered.Goals as goal

-- one more place before those that are gathered
turn : (all rest left seen : List ℕ) (j : ℕ) → all ≡ rest ++ seen → rest ≡ left ++ j ∷ [] → all ≡ left ++ j ∷ seen
turn all rest left seen j e s = e ∙ (ap (λ xs. xs ++ seen) s ∙ append_assoc left (j ∷ []) seen)

-- so few bits fit a number of 64 bits
fits : (all left seen : List ℕ) (j w bits : ℕ) → length all ≤ 64 → all ≡ left ++ j ∷ seen → bits ≡ gather seen w → bits * 2 + bit w j < 2 ^ 64
fits all left seen j w bits few e b =
    let n = length-append left (j ∷ seen) in
    let l : length (j ∷ seen) ≤ 64 = omega (arith, ap length e) in
    let f = lt_of_lt_of_le (gather_lt (j ∷ seen) w) (pow_mono {i = length (j ∷ seen)} {j = 64} l) in
    omega arith

pub overflow_mul-bits : goal.overflow_mul-bits
overflow_mul-bits c =
    let inv = c.loop-place.invariant in
    omega (arith, fits c.args.places.now _ inv.2 c.in-Some.place.now c.args.word c.loop-place.bits c.requires.few (turn c.args.places.now _ _ inv.2 c.in-Some.place.now inv.3 c.in-Some.ensures.steps) inv.4)

pub overflow_add-bits : goal.overflow_add-bits
overflow_add-bits c =
    let inv = c.loop-place.invariant in
    omega (arith, fits c.args.places.now _ inv.2 c.in-Some.place.now c.args.word c.loop-place.bits c.requires.few (turn c.args.places.now _ _ inv.2 c.in-Some.place.now inv.3 c.in-Some.ensures.steps) inv.4)

pub loop-place-preserved : goal.loop-place-preserved
loop-place-preserved c =
    let inv = c.loop-place.invariant in
    (tt, tt, c.in-Some.place.now ∷ inv.2, turn c.args.places.now _ _ inv.2 c.in-Some.place.now inv.3 c.in-Some.ensures.steps, ap (λ x. x * 2 + bit c.args.word c.in-Some.place.now) inv.4)

pub returns : goal.returns
returns c =
    let inv = c.loop-place.invariant in
    let none = nil_from_length (iter_rest (rev_source c.loop-place.place-iterator)) c.in-None.ensures.steps.0 in
    let all : c.args.places.now ≡ inv.2 = inv.3 ∙ ap (λ xs. xs ++ inv.2) none in
    inv.4 ∙ ap (λ xs. gather xs c.args.word) (sym all)
