use Rattle.std.proofs.Common.{◌≡◌, take}
use Rattle.occ_lines.specs.Directive.{last_dot}
use Rattle.occ_lines.proofs.directive.last_dot.Given as goal

abbrev pub invariant-loop-i : goal.invariant-loop-i
invariant-loop-i l = l.last ≡ last_dot (take l.i l.name)
