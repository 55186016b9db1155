use Rattle.std.proofs.Common.{◌≡◌, ◌∙◌, ◌+◌, ◌++◌, ◌∷◌, [], List, append_assoc, ap, arith, drop, subst, sym}
use Rattle.std.proofs.lemmas.List.{drop_more}
use Rattle.occ_expr_operations.specs.Parts.{terms}
use Rattle.occ_forms_expressions.specs.declared.tree.Expr.{Expr}
use Rattle.occ_typing_lines.specs.inside.Decimals.{AreDecimals}
use Rattle.occ_typing_lines.proofs.options.push_decimals.Goals as goal
use Rattle.occ_typing_statements.specs.Statements.{said}
use Rattle.occ_typing_tables.specs.declared.term.Term.{Term}

pub loop-expr-preserved : goal.loop-expr-preserved
loop-expr-preserved c =
    let exprs = c.args.exprs.now in
    let i = c.loop-expr.expr-index in
    let e = c.expr-item.result in
    let after = drop (i + 1) exprs in
    let split : drop i exprs ≡ e ∷ after = drop_more exprs i e (omega (arith, c.loop-expr-test.true)) ∙ ap (λ (x : Expr). x ∷ after) (sym c.expr-item.is) in (
      (λ h. c.loop-expr.invariant.0 (subst AreDecimals (sym split) ((c.in_ok-push_decimal.ensures.decimals c.if-not-branch.false).0, h))),
      (λ s.
          ap (λ (xs : List Term). xs ++ terms (said s after)) (c.in_ok-push_decimal.ensures.terms c.if-not-branch.false s)
          ∙ append_assoc c.loop-expr.terms (terms (said s (e ∷ []))) (terms (said s after))
          ∙ ap (λ (es : List Expr). c.loop-expr.terms ++ terms (said s es)) (sym split)
          ∙ c.loop-expr.invariant.1 s),
    )
