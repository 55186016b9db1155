-- What is kept of the name of a specification beside it.
use Rattle.std.specs.Prelude.{◌≡◌}
use Rattle.occ_scope.specs.declared.numbered.Numbered.TheInside.{Inside}
use Rattle.occ_scope.specs.inside.Folded.{number_for}

abbrev pub IsNumbered : Inside → Type 0
IsNumbered a = a.number ≡ number_for a.name
