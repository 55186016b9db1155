use Rattle.std.proofs.Common.{◌≡◌, drop}
use Rattle.occ_usage_lines.specs.Naming.{outputs_depend as naming}
use Rattle.occ_usage_lines.proofs.naming.outputs_depend.Given as goal

abbrev pub invariant-loop-output : goal.invariant-loop-output
invariant-loop-output l = naming l.number (drop l.output-index l.outputs) ≡ naming l.number l.outputs
