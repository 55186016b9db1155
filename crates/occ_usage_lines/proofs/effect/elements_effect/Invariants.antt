use Rattle.std.proofs.Common.{◌≡◌, drop}
use Rattle.occ_usage_lines.specs.Effects.{elements_effect as reported}
use Rattle.occ_usage_lines.proofs.effect.elements_effect.Given as goal

abbrev pub invariant-loop-element : goal.invariant-loop-element
invariant-loop-element l = reported (drop l.element-index l.elements) l.env ≡ reported l.elements l.env
