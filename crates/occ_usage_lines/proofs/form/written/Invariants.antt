use Rattle.std.proofs.Common.{◌≡◌, ◌++◌, drop}
use Rattle.occ_usage_lines.specs.Forms.{written as reported}
use Rattle.occ_usage_lines.proofs.form.written.Given as goal

abbrev pub invariant-loop-element : goal.invariant-loop-element
invariant-loop-element l = l.uses ++ reported (drop l.element-index l.elements) l.env l.line ≡ l.initial.uses ++ reported l.elements l.env l.line
