use Rattle.std.proofs.Common.{◌≡◌, ◌++◌, drop}
use Rattle.occ_alias.specs.LineCalls.{each_calls as reported}
use Rattle.occ_alias.proofs.line_calls.each_calls.Given as goal

abbrev pub invariant-loop-expr : goal.invariant-loop-expr
invariant-loop-expr l = l.calls ++ reported (drop l.expr-index l.exprs) l.env l.line ≡ l.initial.calls ++ reported l.exprs l.env l.line
