use Rattle.std.proofs.Common.{◌≡◌, ◌+◌, length, min, subst, sym, arith}
use Rattle.code.specs.Meaning.{columns_of}
use Rattle.judge.specs.LineUp.{FirstPair}
use Rattle.judge.specs.declared.search.Rivals.{Rivals}
use Rattle.judge.proofs.Decodings.{candidate_fits, front_fits}
use Rattle.judge.proofs.Lines.{placed_few}
use Rattle.judge.proofs.Searches.{Alone, first_pair, left_out, one_more, turn_quiet}
use Rattle.judge.proofs.search.search.Goals as goal
use Rattle.judge.proofs.search.search.Goals.{else-search-test, then-search-test+else-not-lines_up+then-loop-earlier-test+then-p-q+then-syndrome_of-syndrome}

pub search-preserved-then-not-lines_up : goal.search-preserved-then-not-lines_up
search-preserved-then-not-lines_up g c =
    let same = left_out (g.C.ErrorClass.patterns c.args.first.now) (g.D.ErrorClass.patterns c.args.second.now) c.search.later c.candidate-q.result c.lines_up.result (omega arith) c.candidate-q.ensures c.lines_up.ensures c.if-not-lines_up.true in
    record { so_far = c.search.invariant.so_far; counted = omega arith; quiet = c.search.invariant.quiet }

pub syndrome_of-syndrome-requires : goal.syndrome_of-syndrome-requires
syndrome_of-syndrome-requires g c =
    candidate_fits _ _ _ (g.C.ErrorClass.patterns c.args.first.now) (g.D.ErrorClass.patterns c.args.second.now) c.search.later _ (g.C.ErrorClass.lawful c.args.first.now) (g.D.ErrorClass.lawful c.args.second.now) c.requires.first c.requires.second
    (omega arith) c.candidate-q.ensures

pub syndrome_of-requires : goal.syndrome_of-requires
syndrome_of-requires g c =
    front_fits _ _ (g.C.ErrorClass.patterns c.args.first.now) c.loop-earlier.earlier _ (g.C.ErrorClass.lawful c.args.first.now) c.requires.first
    (omega arith) c.front_pattern-p.ensures

pub overflow_add-places : goal.overflow_add-places
overflow_add-places g c =
    let few = placed_few (g.C.ErrorClass.patterns c.args.first.now) (g.D.ErrorClass.patterns c.args.second.now) c.search.later in
    let first = (g.C.ErrorClass.lawful c.args.first.now).few in
    let second = (g.D.ErrorClass.lawful c.args.second.now).few in
    omega arith

pub search-preserved : goal.search-preserved
search-preserved g c =
    let alone : Alone (columns_of c.args.code.now) (g.C.ErrorClass.patterns c.args.first.now) c.candidate-q.result (min c.search.later (length (g.C.ErrorClass.patterns c.args.first.now) + 1)) = λ e h. c.loop-earlier.invariant.alone e (omega arith) in
    record {
      so_far = c.loop-earlier.invariant.so_far;
      counted = one_more (g.C.ErrorClass.patterns c.args.first.now) (g.D.ErrorClass.patterns c.args.second.now) c.search.later c.candidate-q.result c.lines_up.result (omega arith) c.candidate-q.ensures c.lines_up.ensures
          c.search.places c.if-not-lines_up.false c.search.invariant.counted;
      quiet = turn_quiet (g.C.ErrorClass.patterns c.args.first.now) (g.D.ErrorClass.patterns c.args.second.now) c.search.later c.candidate-q.result c.lines_up.result (omega arith) c.candidate-q.ensures c.lines_up.ensures
          (columns_of c.args.code.now) c.search.places c.if-not-lines_up.false c.search.invariant.counted c.search.invariant.quiet alone;
    }

pub returns-in-Some : goal.returns-in-Some
returns-in-Some g c =
    elim c.search-test.branch [
      | else-search-test w ↦ absurd (let k : ⊥ = cc in k)
      | then-search-test+else-not-lines_up+then-loop-earlier-test+then-p-q+then-syndrome_of-syndrome w ↦
          (let is : c.in-Some.rivals ≡ record { earlier = w.front_pattern-p.result; later = w.candidate-q.result } = cc in
          subst (λ (s : Rivals). FirstPair (columns_of c.args.code.now) (g.C.ErrorClass.patterns c.args.first.now) (g.D.ErrorClass.patterns c.args.second.now) s.earlier s.later) (sym is)
          (first_pair (g.C.ErrorClass.patterns c.args.first.now) (g.D.ErrorClass.patterns c.args.second.now) c.search.later w.candidate-q.result w.lines_up.result (omega arith) w.candidate-q.ensures w.lines_up.ensures
          (columns_of c.args.code.now) c.search.places w.if-not-lines_up.false c.search.invariant.counted c.search.invariant.quiet
          w.loop-earlier.earlier w.front_pattern-p.result w.syndrome_of-syndrome.result w.syndrome_of.result (omega arith) w.front_pattern-p.ensures w.if-p-q.true w.syndrome_of-syndrome.ensures w.syndrome_of.ensures w.if-syndrome_of-syndrome.true
          w.loop-earlier.invariant.alone))
    ]
