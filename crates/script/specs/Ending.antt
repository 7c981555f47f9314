-- What is said at the end of a script.
use Rattle.std.specs.Prelude.{ℕ, List, [], Some, None, Option}
use Rattle.script.specs.declared.drawing.Drawing.{Drawing}
use Rattle.script.specs.Replies.{unfinished_line}

-- nothing, unless a drawing is left open
abbrev pub ending : Option Drawing → List ℕ
ending None = []
ending (Some d) = unfinished_line d.since
