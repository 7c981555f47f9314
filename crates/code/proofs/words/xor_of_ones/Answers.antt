use Rattle.std.proofs.Common.{◌-◌, ◌<◌, length, map, sym, ap, ◌∙◌, arith}
use lib.Bits.{and_le_r}
use lib.Count.{count_trailing_zeros}
use Rattle.std.proofs.lemmas.List.{get_or-map}
use Rattle.code.specs.Words.{combine}
use Rattle.code.proofs.Lowest.{lowest_below, take_lowest, taken_all}
use Rattle.code.proofs.words.xor_of_ones.Goals as goal

pub bounds-items-j : goal.bounds-items-j
bounds-items-j g c = lowest_below 64 _ c.loop-rest.rest (omega arith) (omega arith) (omega arith)

pub offset_bounds-items-j : goal.offset_bounds-items-j
offset_bounds-items-j g c =
    let h : count_trailing_zeros 64 c.loop-rest.rest < length c.args.items.now = lowest_below 64 _ c.loop-rest.rest (omega arith) (omega arith) (omega arith) in
    omega arith

pub loop-rest-preserved : goal.loop-rest-preserved
loop-rest-preserved g c =
    let rest = c.loop-rest.rest in
    let item = c.index-items-j.result in (
      omega (arith, and_le_r rest (rest - 1)),
      λ of exact.
          take_lowest (map of c.args.items.now) 64 rest c.loop-rest.sum c.worth-sum.result (combine (map of c.args.items.now) c.args.word) (omega arith) (omega arith) (c.loop-rest.invariant.1 of exact)
          (exact item c.worth-sum.result c.worth-sum.ensures ∙ (ap of c.index-items-j.is
          ∙ sym (get_or-map of c.args.items.now (count_trailing_zeros 64 rest) item 0 (lowest_below 64 _ rest (omega arith) (omega arith) (omega arith))))),
    )

pub returns : goal.returns
returns g c = λ of exact. taken_all (map of c.args.items.now) c.loop-rest.rest c.loop-rest.sum _ (omega arith) (c.loop-rest.invariant.1 of exact)
