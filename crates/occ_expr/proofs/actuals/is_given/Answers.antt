use Rattle.std.proofs.Common.{ap, length, sym, Some, ◌∙◌}
use Rattle.occ_forms_expressions.specs.declared.tree.Expr.TheVariants as exprs
use Rattle.occ_scope.specs.Elements.{formal_of}
use Rattle.occ_scope.specs.Visible.{visible}
use Rattle.occ_expr.proofs.Passing.{call_known}
use Rattle.occ_expr.proofs.actuals.is_given.Goals as goal

pub returns : goal.returns
returns c of formal takes =
    call_known c.args.scope.now c.in-Call.giver c.args.callee.now c.args.place c.in-Call.field-1 c.in-Some-Function.formals c.in-Some-Function.field-0-1 of c.args.expr.now (c.in-Alone.is ∙ ap exprs.Alone c.in-Call.is)
    (c.in-Some-Function.ensures ∙ ap Some c.in-Some-Function.field-0-is)
    (ap (formal_of (visible c.args.scope.now c.in-Call.giver)) (sym (c.len.ensures ∙ ap length c.get.ensures)) ∙ c.is_known_to_pass.ensures takes)
    formal
