use Rattle.std.proofs.Common.{◌≡◌, drop}
use Rattle.occ_usage_lines.specs.Naming.{elements_depend as naming}
use Rattle.occ_usage_lines.proofs.naming.elements_depend.Given as goal

abbrev pub invariant-loop-element : goal.invariant-loop-element
invariant-loop-element l = naming l.number (drop l.element-index l.elements) ≡ naming l.number l.elements
