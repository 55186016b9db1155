-- What is kept of a name that is looked for beside it.
use Rattle.std.specs.Prelude.{◌≡◌}
use Rattle.occ_scope.specs.declared.numbered.Sought.TheInside.{Inside}
use Rattle.occ_scope.specs.inside.Folded.{number_for}

abbrev pub IsSought : Inside → Type 0
IsSought a = a.number ≡ number_for a.name.now
