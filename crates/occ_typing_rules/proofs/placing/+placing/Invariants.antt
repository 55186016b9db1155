use Rattle.std.proofs.Common.{◌≡◌, drop}
use Rattle.occ_typing_rules.specs.Placing.{all_placed}
use Rattle.occ_typing_rules.proofs.Fronts.{with_front}
use Rattle.occ_typing_rules.proofs.placing.+placing.Given as goal

abbrev pub invariant-all_placed-loop-open_expr : goal.invariant-all_placed-loop-open_expr
invariant-all_placed-loop-open_expr l = with_front l.trees (all_placed (drop l.open_expr-index l.open_exprs) l.of) ≡ all_placed l.open_exprs l.of
