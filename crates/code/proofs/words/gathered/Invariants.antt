use Rattle.std.proofs.Common.{◌≡◌, ℕ, List, ◌++◌}
use Rattle.std.specs.Slice.Iter.{iter_rest}
use Rattle.std.specs.Iterator.Adapters.{rev_source}
use Rattle.code.specs.Words.{gather}
use Rattle.code.proofs.words.gathered.Given as goal

-- the places behind those that are left are gathered
abbrev pub invariant-loop-place : goal.invariant-loop-place
invariant-loop-place l =
    (goal.iterator-loop-place).can_next l.place-iterator
    × (goal.iterator-loop-place).is_finite l.place-iterator
    × (seen : List ℕ)
    × (l.places ≡ iter_rest (rev_source l.place-iterator) ++ seen)
    × (l.bits ≡ gather seen l.word)
