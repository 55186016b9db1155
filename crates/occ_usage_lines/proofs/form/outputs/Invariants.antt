use Rattle.std.proofs.Common.{◌≡◌, ◌++◌, drop}
use Rattle.occ_usage_lines.specs.Forms.{outputs_uses as reported}
use Rattle.occ_usage_lines.proofs.form.outputs.Given as goal

abbrev pub invariant-loop-one : goal.invariant-loop-one
invariant-loop-one l = l.uses ++ reported (drop l.one-index l.outputs) l.env l.line ≡ l.initial.uses ++ reported l.outputs l.env l.line
