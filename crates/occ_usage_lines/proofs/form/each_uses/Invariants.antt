use Rattle.std.proofs.Common.{◌≡◌, ◌++◌, drop}
use Rattle.occ_usage_lines.specs.Forms.{each_uses as reported}
use Rattle.occ_usage_lines.proofs.form.each_uses.Given as goal

abbrev pub invariant-loop-expr : goal.invariant-loop-expr
invariant-loop-expr l = l.uses ++ reported (drop l.expr-index l.exprs) l.env l.line ≡ l.initial.uses ++ reported l.exprs l.env l.line
