use Rattle.std.proofs.Common.{◌≡◌, ◌++◌, drop}
use Rattle.occ_typing_specifications.specs.Knowing.{known_types}
use Rattle.occ_typing_specifications.proofs.result_type.known_types.Given as goal

abbrev pub invariant-loop-of : goal.invariant-loop-of
invariant-loop-of l = l.known ++ known_types (drop l.of-index l.types) ≡ known_types l.types
