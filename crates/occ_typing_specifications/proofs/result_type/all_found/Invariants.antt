use Rattle.std.proofs.Common.{◌≡◌, drop}
use Rattle.occ_typing_specifications.specs.Knowing.{all_found}
use Rattle.occ_typing_specifications.proofs.result_type.all_found.Given as goal

abbrev pub invariant-loop-of : goal.invariant-loop-of
invariant-loop-of l = all_found (drop l.of-index l.types) ≡ all_found l.types
