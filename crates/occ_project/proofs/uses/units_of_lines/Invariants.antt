use Rattle.std.proofs.Common.{◌≡◌, take}
use Rattle.std.specs.List.{flat_map}
use Rattle.occ_project.specs.Uses.{units_of}
use Rattle.occ_project.proofs.uses.units_of_lines.Given as goal

abbrev pub invariant-loop-line : goal.invariant-loop-line
invariant-loop-line l = l.names ≡ flat_map units_of (take l.line-index l.lines)
