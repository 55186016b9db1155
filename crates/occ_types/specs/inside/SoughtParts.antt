-- What is kept of a name that is looked for beside it.
use Rattle.std.specs.Prelude.{◌≡◌}
use Rattle.occ_types.specs.declared.part_name.SoughtPart.TheInside.{Inside}
use Rattle.occ_types.specs.inside.Digests.{digest}

abbrev pub IsSought : Inside → Type 0
IsSought a = a.digest ≡ digest a.name.now
