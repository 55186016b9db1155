use Rattle.std.proofs.Common.{◌≡◌, drop}
use Rattle.occ_usage_lines.specs.Naming.{targets_depend as naming}
use Rattle.occ_usage_lines.proofs.naming.targets_depend.Given as goal

abbrev pub invariant-loop-target : goal.invariant-loop-target
invariant-loop-target l = naming l.number (drop l.target-index l.targets) ≡ naming l.number l.targets
