use Rattle.std.proofs.Common.{◌≡◌, ◌++◌, drop}
use Rattle.occ_typing_specifications.specs.Formals.{each_of}
use Rattle.occ_typing_specifications.proofs.formal.push_formals.Given as goal

abbrev pub invariant-loop-name : goal.invariant-loop-name
invariant-loop-name l = l.formals ++ each_of l.of l.passing (drop l.name-index l.names) ≡ l.initial.formals ++ each_of l.of l.passing l.names
