-- The first of several operands, settled under its own type.
use Rattle.std.proofs.Common.{◌≡◌, ◌∙◌, List, [], ◌∷◌, ap, map}
use Rattle.occ_typing_operands.specs.declared.kind.Known.{Known}
use Rattle.occ_typing_tables.specs.Terms.{Judged, settled_under}
use Rattle.occ_typing_tables.specs.declared.table.Settled.{Settled}
use Rattle.occ_typing_tables.specs.inside.Own.{IsOwnFirst, as_it_stands}

abbrev first_or : Settled → List Settled → Settled
first_or y [] = y
first_or y (x ∷ xs) = x

-- it stands before the others
pub first_own : (v : Known) (xs rest : List Judged) (x : Judged) → IsOwnFirst v xs → x.settled v.of ∷ map (settled_under v.of) rest ≡ map (settled_under v.of) xs → x.settled v.of ≡ as_it_stands v
first_own v [] rest x own e = ap (first_or (as_it_stands v)) e
first_own v (y ∷ ys) rest x own e = ap (first_or (as_it_stands v)) e ∙ own
