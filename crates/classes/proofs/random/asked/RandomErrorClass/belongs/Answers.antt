use Rattle.std.proofs.Common.{◌^◌, ◌<◌, false, eqb, ◌∙◌, arith}
use lib.Count.{ones}
use Rattle.code.specs.Search.{among}
use Rattle.listings.specs.Listings.{random}
use Rattle.listings.proofs.RandomWords.{random_only, random_every}
use Rattle.std.proofs.lemmas.Bool.{eqb-true, eq-eqb, false≢true, le-ltb}
use Rattle.std.proofs.lemmas.Bool.Decides.{same_from_decides}
use Rattle.classes.proofs.random.asked.RandomErrorClass.belongs.Goals as goal

pub returns-then-mask-end : goal.returns-then-mask-end
returns-then-mask-end c =
    let n = c.args.self.now.width.columns in
    let t = c.args.self.now.ones in
    let m = c.args.mask in
    let below : m < 2 ^ n = omega arith in
    same_from_decides (eqb (ones m) t) (among (random n t) m) ((λ e. (below, eqb-true (ones m) t e)), (λ o. eq-eqb (ones m) t o.1)) (random_only n t m, random_every n t m)

-- a mask of 2^n or more is not listed
pub returns-else-mask-end : goal.returns-else-mask-end
returns-else-mask-end c =
    let n = c.args.self.now.width.columns in
    let t = c.args.self.now.ones in
    let m = c.args.mask in
    le-ltb m c.end.result (omega arith) ∙ same_from_decides false (among (random n t) m) ((λ e. absurd (false≢true e)), (λ o. absurd (omega (arith, o.0)))) (random_only n t m, random_every n t m)
