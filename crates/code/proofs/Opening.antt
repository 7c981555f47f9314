-- What opening a code has found out is what the type of a code asks.
use Rattle.std.proofs.Common.{◌≡◌, ℕ, List, length, sym, subst}
use Rattle.code.specs.Codes.{Shape, Narrow, Covered, Laid, Wellformed}
use Rattle.code.specs.Opening.{GoodColumns}
use Rattle.code.proofs.Refusing.{rising_from}
use Rattle.code.proofs.Units.{Located, units_from}

pub wellformed_from : (cs ds us : List ℕ) → Shape (length cs) (length ds) → GoodColumns cs ds (length ds) → Narrow cs ds → Located cs ds us → Covered cs ds us → Wellformed cs ds
wellformed_from cs ds us shape good narrow l covered = record {
  shape = shape;
  inside = λ i h. (good i h).0;
  rising = rising_from (length cs) ds good;
  narrow = narrow;
  units = units_from cs ds us l covered;
}

pub laid_from : (cs ds cs' ds' us : List ℕ) → cs' ≡ cs → ds' ≡ ds → Wellformed cs ds → Located cs ds us → Covered cs ds us → Laid cs' ds' us
laid_from cs ds cs' ds' us p q w l covered =
    let laid : Laid cs ds us = record {
      shape = w.shape;
      inside = w.inside;
      rising = w.rising;
      narrow = w.narrow;
      each_row = l.0;
      placed = λ i h. (l.1 i h).0.0;
      aside = λ i h. (l.1 i h).0.1;
      units = λ i h. (l.1 i h).1;
      covered = covered;
    } in
    subst (λ xs. Laid xs ds' us) (sym p) (subst (λ xs. Laid cs xs us) (sym q) laid)
