use Rattle.std.proofs.Common.{◌≡◌, None}
use Rattle.code.specs.Meaning.{columns_of}
use Rattle.judge.proofs.Lines.{placed}
use Rattle.judge.proofs.Searches.{Alone, Quiet}
use Rattle.judge.proofs.search.search.Given as goal

-- q clashes with none of the first patterns of the front
abbrev pub invariant-loop-earlier : goal.invariant-loop-earlier
invariant-loop-earlier g l = record {
  so_far : l.rivals ≡ None;
  alone : Alone (columns_of l.code) (g.C.ErrorClass.patterns l.first) l.q l.earlier;
}

-- the places so far clash with none before them
abbrev pub invariant-search : goal.invariant-search
invariant-search g l = record {
  so_far : l.rivals ≡ None;
  counted : l.places ≡ placed (g.C.ErrorClass.patterns l.first) (g.D.ErrorClass.patterns l.second) l.later;
  quiet : Quiet (columns_of l.code) (g.C.ErrorClass.patterns l.first) (g.D.ErrorClass.patterns l.second) l.places;
}
