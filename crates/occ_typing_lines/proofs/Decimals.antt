-- What is read of literals in decimal digits, and what their trees are.
use Rattle.std.proofs.Common.{◌≡◌, ◌∙◌, ◌++◌, ℕ, pos, Option, Some, List, [], ◌∷◌, refl, sym, ap}
use Rattle.std.specs.Option.{unwrap_or}
use Rattle.occ_expr_operations.specs.Parts.{Said, own_faults, terms}
use Rattle.occ_expr_operations.specs.Literals.{literal}
use Rattle.occ_expr_operations.specs.Views.{expr_view}
use Rattle.occ_expr_operations.proofs.Views.{expr_alone_open, expr_alone_said, operand_literal_digits, operand_literal_whole, operand_literal_whole_open}
use Rattle.occ_expr_operations.proofs.Layers.{expr_alone}
use Rattle.occ_forms_expressions.specs.declared.tree.Bounds.{Bounds}
use Rattle.occ_forms_expressions.specs.declared.tree.Bounds.TheOpen.{Expr-F}
use Rattle.occ_forms_expressions.specs.declared.tree.Builtin.{Builtin}
use Rattle.occ_forms_expressions.specs.declared.tree.Dimension.{Dimension}
use Rattle.occ_forms_expressions.specs.declared.tree.Element.{Element}
use Rattle.occ_forms_expressions.specs.declared.tree.Expr.{Expr}
use Rattle.occ_forms_expressions.specs.declared.tree.Expr.TheVariants as expr
use Rattle.occ_forms_expressions.specs.declared.tree.Literal.TheVariants as literal_form
use Rattle.occ_forms_expressions.specs.declared.tree.NamedOperand.{NamedOperand}
use Rattle.occ_forms_expressions.specs.declared.tree.Operand.{Operand}
use Rattle.occ_forms_expressions.specs.declared.tree.Operand.TheVariants as operand
use Rattle.occ_forms_expressions.specs.declared.tree.TypeForm.{TypeForm}
use Rattle.occ_scope.specs.declared.scope.Scope.{Scope}
use Rattle.occ_types.specs.declared.types.OccType.{OccType}
use Rattle.occ_typing_lines.specs.inside.Decimals.{AreDecimals, IsDecimal, decimal_tree, decimal_trees, digits_in, number_in}
use Rattle.occ_typing_operands.specs.Outcomes.{decimal}
use Rattle.occ_typing_operands.specs.declared.kind.Kind.TheVariants as k
use Rattle.occ_typing_rules.proofs.OpenPlacing.{placed_literal}
use Rattle.occ_typing_rules.specs.Placing.{all_placed, placed, with_first}
use Rattle.occ_typing_rules.specs.declared.expr.TypedExpr.{TypedExpr}
use Rattle.occ_typing_rules.specs.declared.open_expr.OpenExpr.{OpenExpr}
use Rattle.occ_typing_rules.specs.declared.open_expr.OpenExpr.TheVariants as d
use Rattle.occ_typing_statements.specs.StatementTrees.{open_exprs}
use Rattle.occ_typing_statements.specs.Statements.{said}
use Rattle.occ_typing_tables.specs.declared.term.Term.TheVariants as v

abbrev decimal_expr : ℕ → Expr
decimal_expr n = expr.Alone (operand.Literal (literal_form.Decimal n))

-- ---- one

one_said : (n : ℕ) (s : Scope) → (expr_view (decimal_expr n)).said s ≡ record { faults = []; term = v.Single (k.Untyped (decimal (pos n))) }
unfolding literal
one_said n s = expr_alone_said (operand.Literal (literal_form.Decimal n)) s ∙ operand_literal_whole (literal_form.Decimal n) s

one_open : (n : ℕ) (s : Scope) → (expr_view (decimal_expr n)).open_expr s ≡ d.Literal (decimal (pos n))
unfolding literal
one_open n s = expr_alone_open (operand.Literal (literal_form.Decimal n)) s ∙ operand_literal_whole_open (literal_form.Decimal n) s

one_number : (n : ℕ) → number_in (decimal_expr n) ≡ n
one_number n =
    ap (λ (x : Expr-F Bounds Builtin Dimension Element Expr NamedOperand Operand TypeForm). unwrap_or (digits_in x) 0) (expr_alone (operand.Literal (literal_form.Decimal n)))
    ∙ ap (λ (x : Option ℕ). unwrap_or x 0) (operand_literal_digits (literal_form.Decimal n))

-- ---- all

pub one_term : (e : Expr) (s : Scope) (n : ℕ) → e ≡ decimal_expr n → terms (said s (e ∷ [])) ≡ v.Single (k.Untyped (decimal (pos n))) ∷ []
one_term e s n is = ap (λ (x : Expr). ((expr_view x).said s).term ∷ []) is ∙ ap (λ (x : Said). x.term ∷ []) (one_said n s)

pub silent : (s : Scope) (es : List Expr) → AreDecimals es → own_faults (said s es) ≡ []
silent s [] h = refl
silent s (e ∷ es) h =
    ap (λ (x : Expr). ((expr_view x).said s).faults ++ own_faults (said s es)) h.0.is
    ∙ ap (λ (x : Said). x.faults ++ own_faults (said s es)) (one_said h.0.number s)
    ∙ silent s es h.1

one_placed : (s : Scope) (of : OccType) (e : Expr) → IsDecimal e → placed ((expr_view e).open_expr s) of ≡ Some (decimal_tree of (number_in e))
one_placed s of e h =
    ap (λ (x : Expr). placed ((expr_view x).open_expr s) of) h.is
    ∙ ap (λ (x : OpenExpr). placed x of) (one_open h.number s)
    ∙ placed_literal (decimal (pos h.number)) of
    ∙ ap (λ (n : ℕ). Some (decimal_tree of n)) (sym (ap number_in h.is ∙ one_number h.number))

pub trees_of : (s : Scope) (of : OccType) (es : List Expr) → AreDecimals es → all_placed (open_exprs s es) of ≡ Some (decimal_trees of es)
trees_of s of [] h = refl
trees_of s of (e ∷ es) h =
    ap (λ (x : Option TypedExpr). with_first x (all_placed (open_exprs s es) of)) (one_placed s of e h.0)
    ∙ ap (λ (xs : Option (List TypedExpr)). with_first (Some (decimal_tree of (number_in e))) xs) (trees_of s of es h.1)
