use Rattle.std.proofs.Common.{ap}
use Rattle.occ_forms_expressions.specs.declared.tree.Dimension.TheVariants as dv
use Rattle.occ_forms_expressions.specs.declared.tree.Expr.{Expr}
use Rattle.occ_forms_expressions.proofs.Bracketing.{dimension_builtin, dimension_found, dimension_named, dimension_no_operand, no_dimension_here, operand_after, operand_found, operand_no_builtin, operand_no_named}
use Rattle.occ_forms_expressions.proofs.bracketed.after_brackets.Goals as goal

pub returns-then-is_dimension-clause-found : goal.returns-then-is_dimension-clause-found
returns-then-is_dimension-clause-found g c = dimension_found _ _ _ _ _ (c.is_dimension.ensures.0 c.if-is_dimension.true).0 (ap (λ (e : Expr). dv.Sized e) c.in_ok-size.ensures) c.after_dimension.ensures.found

pub returns-then-is_dimension-clause-operand : goal.returns-then-is_dimension-clause-operand
returns-then-is_dimension-clause-operand g c = dimension_no_operand _ _ _ _ (c.is_dimension.ensures.0 c.if-is_dimension.true).1

pub returns-then-is_dimension-clause-named : goal.returns-then-is_dimension-clause-named
returns-then-is_dimension-clause-named g c = dimension_named _ _ _ _ _ (ap (λ (e : Expr). dv.Sized e) c.in_ok-size.ensures) c.after_dimension.ensures.named

pub returns-then-is_dimension-clause-builtin : goal.returns-then-is_dimension-clause-builtin
returns-then-is_dimension-clause-builtin g c = dimension_builtin _ _ _ _ _ (ap (λ (e : Expr). dv.Sized e) c.in_ok-size.ensures) c.after_dimension.ensures.builtin

pub returns-clause-found : goal.returns-clause-found
returns-clause-found g c = operand_found _ _ _ _ _ (rw c.in-Some.is at c.in_ok-operand.ensures) c.after_first.ensures.found

pub returns-clause-operand : goal.returns-clause-operand
returns-clause-operand g c = operand_after _ _ _ _ _ (rw c.in-Some.is at c.in_ok-operand.ensures) c.after_first.ensures.only

pub returns-clause-named : goal.returns-clause-named
returns-clause-named g c = operand_no_named _ _ _ _ (no_dimension_here _ _ c.is_dimension.ensures.1 c.if-is_dimension.false)

pub returns-clause-builtin : goal.returns-clause-builtin
returns-clause-builtin g c = operand_no_builtin _ _ _ _ (no_dimension_here _ _ c.is_dimension.ensures.1 c.if-is_dimension.false)
