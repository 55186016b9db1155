use Rattle.std.proofs.Common.{◌≡◌, ◌++◌, drop}
use Rattle.occ_typing_statements.specs.Actuals.{each_faults, each_tree, with_actuals}
use Rattle.occ_typing_statements.proofs.actual.each_actual.Given as goal

abbrev pub invariant-loop-formal : goal.invariant-loop-formal
invariant-loop-formal l =
    (l.place ≡ l.formal-index)
    × (l.scope ≡ l.initial.scope)
    × (with_actuals l.actuals (each_tree l.initial.scope (drop l.formal-index l.formals) l.exprs) ≡ each_tree l.initial.scope l.formals l.initial.exprs)
    × (l.faults ++ each_faults l.initial.scope (drop l.formal-index l.formals) l.exprs ≡ l.initial.faults ++ each_faults l.initial.scope l.formals l.initial.exprs)
