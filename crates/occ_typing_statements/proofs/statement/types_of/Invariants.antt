use Rattle.std.proofs.Common.{◌≡◌, ◌++◌, drop}
use Rattle.occ_typing_statements.specs.StatementTrees.{types_of as spec_types_of}
use Rattle.occ_typing_statements.proofs.statement.types_of.Given as goal

abbrev pub invariant-loop-target : goal.invariant-loop-target
invariant-loop-target l = l.types ++ spec_types_of (drop l.target-index l.targets) ≡ spec_types_of l.targets
