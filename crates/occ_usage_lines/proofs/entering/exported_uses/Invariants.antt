use Rattle.std.proofs.Common.{◌≡◌, ◌++◌, drop}
use Rattle.occ_usage_lines.specs.Entering.{exported_uses as reported}
use Rattle.occ_usage_lines.proofs.entering.exported_uses.Given as goal

abbrev pub invariant-loop-found : goal.invariant-loop-found
invariant-loop-found l = l.made ++ reported l.number l.line (drop l.found-index l.uses) ≡ reported l.number l.line l.uses
