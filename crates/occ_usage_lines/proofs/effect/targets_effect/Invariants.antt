use Rattle.std.proofs.Common.{◌≡◌, drop}
use Rattle.occ_usage_lines.specs.Effects.{targets_effect as reported}
use Rattle.occ_usage_lines.proofs.effect.targets_effect.Given as goal

abbrev pub invariant-loop-target : goal.invariant-loop-target
invariant-loop-target l = reported (drop l.target-index l.targets) l.env ≡ reported l.targets l.env
