-- What is kept of the name of a field or a tag beside it.
use Rattle.std.specs.Prelude.{◌≡◌}
use Rattle.occ_types.specs.declared.part_name.PartName.TheInside.{Inside}
use Rattle.occ_types.specs.inside.Digests.{digest}

abbrev pub IsNumbered : Inside → Type 0
IsNumbered a = a.digest ≡ digest a.name
