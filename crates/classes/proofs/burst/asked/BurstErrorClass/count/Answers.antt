use Rattle.std.proofs.Common.{arith}
use Rattle.listings.proofs.BurstRuns.{burst_length}
use Rattle.listings.specs.Limits.{least_run, most_run}
use Rattle.listings.proofs.MixedItems.{sized}
use Rattle.classes.proofs.burst.asked.BurstErrorClass.count.Goals as goal

pub returns : goal.returns
returns c = let s = c.args.self.now in omega (arith, burst_length s.width.columns s.size, sized least_run most_run s.width.columns s.size s.good)
