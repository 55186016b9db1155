use Rattle.std.proofs.Common.{◌≡◌, ◌++◌, ◌||◌, drop}
use Rattle.occ_typing_operands.specs.Operators.{all_faults}
use Rattle.occ_typing_tables.specs.Terms.{judged_all}
use Rattle.occ_typing_rules.specs.Calling.{each_for}
use Rattle.occ_typing_rules.specs.Numbering.{any_faulty}
use Rattle.occ_expr_operations.specs.Parts.{in_scope, terms}
use Rattle.occ_expr_operations.specs.Views.{expr_views}
use Rattle.occ_expr.proofs.actuals.each_for.Given as goal

abbrev pub invariant-loop-formal : goal.invariant-loop-formal
invariant-loop-formal l =
    (l.place ≡ l.formal-index)
    × (l.terms ≡ terms (in_scope l.scope (expr_views l.exprs)))
    × ((l.found || any_faulty (each_for (drop l.formal-index l.formals) (judged_all l.terms))) ≡ any_faulty (each_for l.formals (judged_all l.initial.terms)))
    × (l.faults ++ all_faults (each_for (drop l.formal-index l.formals) (judged_all l.terms)) ≡ l.initial.faults ++ all_faults (each_for l.formals (judged_all l.initial.terms)))
