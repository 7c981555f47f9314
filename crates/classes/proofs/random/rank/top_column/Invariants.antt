use Rattle.std.proofs.Common.{◌-◌, ◌<◌, ◌≤◌}
use Rattle.listings.specs.Listings.{choose}
use Rattle.classes.proofs.random.rank.top_column.Given as goal

abbrev pub invariant-loop-high : goal.invariant-loop-high
invariant-loop-high l = (l.low < l.high) × (l.high ≤ l.top) × (choose l.low l.t ≤ l.rest) × (l.rest < choose l.high l.t)

abbrev pub decreases-loop-high : goal.decreases-loop-high
decreases-loop-high l = l.high - l.low
