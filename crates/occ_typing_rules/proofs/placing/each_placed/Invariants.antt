use Rattle.std.proofs.Common.{◌≡◌, drop}
use Rattle.occ_typing_rules.specs.Placing.{each_placed}
use Rattle.occ_typing_rules.proofs.Fronts.{with_front}
use Rattle.occ_typing_rules.proofs.placing.each_placed.Given as goal

abbrev pub invariant-loop-open_expr : goal.invariant-loop-open_expr
invariant-loop-open_expr l = with_front l.trees (each_placed (drop l.open_expr-index l.open_exprs) l.types) ≡ each_placed l.open_exprs l.initial.types
