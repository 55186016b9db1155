use Rattle.std.proofs.Common.{◌≡◌, ◌++◌, drop}
use Rattle.occ_usage_lines.specs.Forms.{targets_uses as reported}
use Rattle.occ_usage_lines.proofs.form.targets.Given as goal

abbrev pub invariant-loop-one : goal.invariant-loop-one
invariant-loop-one l = l.uses ++ reported (drop l.one-index l.targets) l.env l.line ≡ l.initial.uses ++ reported l.targets l.env l.line
