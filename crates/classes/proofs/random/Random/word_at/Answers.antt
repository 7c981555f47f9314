use Rattle.std.proofs.Common.{◌≡◌, ◌-◌, get_or, ap, arith}
use Rattle.code.specs.Limits.{most_columns}
use Rattle.listings.specs.Listings.{random, choose}
use Rattle.listings.proofs.RandomWords.{step, random_length, word_below}
use Rattle.classes.proofs.random.Random.word_at.Goals as goal

pub loop-left-init : goal.loop-left-init
loop-left-init c =
    let s = c.args.self.now in
    let all = ap (λ n. choose n s.ones) c.columns-top.ensures.value in
    let same = ap (λ n. get_or (random n s.ones) c.args.i 0) c.columns-top.ensures.value in
    let e = random_length s.width.columns s.ones in
    (omega arith, omega arith, omega arith, omega arith)

pub overflow_add-word : goal.overflow_add-word
overflow_add-word c =
    let self = c.args.self.now in
    let s = step c.loop-left.top c.loop-left.left c.top_column-top.result c.loop-left.rest (omega arith) c.top_column-top.ensures.below c.top_column-top.ensures.from c.top_column-top.ensures.to in
    let b = word_below self.width.columns self.ones c.args.i most_columns (omega arith) c.requires in
    omega (arith, s.word, b, c.loop-left.invariant.3, c.weight-word.ensures.power)

pub loop-left-preserved : goal.loop-left-preserved
loop-left-preserved c =
    let column = c.top_column-top.result in
    let left = c.loop-left.left in
    let s = step c.loop-left.top left column c.loop-left.rest (omega arith) c.top_column-top.ensures.below c.top_column-top.ensures.from c.top_column-top.ensures.to in
    let b = c.binomial-rest.ensures in
    let same : get_or (random column (left - 1)) (c.loop-left.rest - c.binomial-rest.result) 0 ≡ get_or (random column (left - 1)) (c.loop-left.rest - choose column left) 0
    = ap (λ x. get_or (random column (left - 1)) (c.loop-left.rest - x) 0) b in
    (omega arith, omega arith, omega (arith, s.less), omega (arith, s.word, c.loop-left.invariant.3, c.weight-word.ensures.power))
