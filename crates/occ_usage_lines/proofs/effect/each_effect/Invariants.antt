use Rattle.std.proofs.Common.{◌≡◌, drop}
use Rattle.occ_usage_lines.specs.Effects.{each_effect as reported}
use Rattle.occ_usage_lines.proofs.effect.each_effect.Given as goal

abbrev pub invariant-loop-expr : goal.invariant-loop-expr
invariant-loop-expr l = reported (drop l.expr-index l.exprs) l.env ≡ reported l.exprs l.env
