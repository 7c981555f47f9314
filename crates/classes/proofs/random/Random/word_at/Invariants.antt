use Rattle.std.proofs.Common.{◌≡◌, ◌+◌, ◌<◌, ◌≤◌, get_or}
use Rattle.listings.specs.Listings.{choose, random}
use Rattle.classes.specs.Meaning.{words_of}
use Rattle.classes.proofs.random.Random.word_at.Given as goal

-- the ones taken so far and the word that is left make the word looked for
abbrev pub invariant-loop-left : goal.invariant-loop-left
invariant-loop-left l =
    (l.top ≤ l.self.width.columns) × (l.left ≤ l.self.ones) × (l.rest < choose l.top l.left) × (l.word + get_or (random l.top l.left) l.rest 0 ≡ get_or (words_of l.self) l.i 0)
