use Rattle.std.proofs.Common.{◌≡◌, ◌∙◌, arith, ap, subst}
use Rattle.std.specs.Prelude.{IfOk, pos, ◌-ℤ◌}
use Rattle.std.proofs.lemmas.Int.{ints}
use mir.Syntax.{w128}
use mir.Val.{of_z, to_z}
use Rattle.occ_typing_operands.specs.Outcomes.{decimal}
use Rattle.occ_typing_operands.specs.declared.kind.Kind.{Kind}
use Rattle.occ_typing_operands.specs.declared.kind.Kind.TheVariants as k
use Rattle.occ_typing_tables.specs.declared.term.Term.TheVariants as v
use Rattle.occ_expr_operations.specs.OpenExprs.{literal_open}
use Rattle.occ_expr_operations.proofs.operation.negative.Goals as goal

pub returns-clause-term : goal.returns-clause-term
returns-clause-term c =
    let number : to_z w128 (of_z w128 (pos 0 -ℤ to_z w128 (of_z w128 c.from.result))) ≡ pos 0 -ℤ pos c.args.n = omega (arith, ints) in
    let kind : c.in_ok-untyped.field-0 ≡ k.Untyped (decimal (pos 0 -ℤ pos c.args.n)) = c.in_ok-untyped.ensures ∙ ap k.Untyped (c.decimal.ensures ∙ ap decimal number) in
    subst (λ (z : Kind). IfOk c.literal_reading.result (λ whole. whole.term ≡ v.Single z)) kind c.literal_reading.ensures.term

pub returns-clause-open_expr : goal.returns-clause-open_expr
returns-clause-open_expr c =
    let number : to_z w128 (of_z w128 (pos 0 -ℤ to_z w128 (of_z w128 c.from.result))) ≡ pos 0 -ℤ pos c.args.n = omega (arith, ints) in
    let kind : c.in_ok-untyped.field-0 ≡ k.Untyped (decimal (pos 0 -ℤ pos c.args.n)) = c.in_ok-untyped.ensures ∙ ap k.Untyped (c.decimal.ensures ∙ ap decimal number) in
    subst (λ (z : Kind). IfOk c.literal_reading.result (λ whole. whole.open_expr ≡ literal_open z)) kind c.literal_reading.ensures.open_expr
