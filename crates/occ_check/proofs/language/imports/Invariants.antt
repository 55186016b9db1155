use Rattle.std.proofs.Common.{◌≡◌, ◌++◌, drop}
use Rattle.occ_check.specs.Language.{imports}
use Rattle.occ_check.proofs.language.imports.Given as goal

abbrev pub invariant-loop-one : goal.invariant-loop-one
invariant-loop-one l = l.found.items ++ imports (drop l.one-index l.used) ≡ imports l.used
