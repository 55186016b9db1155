-- A subscript in decimal digits: what it selects, and its tree.
use Rattle.std.proofs.Common.{◌≡◌, ℕ, [], refl, ap, ◌∙◌}
use Rattle.std.specs.Prelude.{pos}
use Rattle.occ_expr_operations.specs.Elements.{place_tree}
use Rattle.occ_expr_operations.specs.Literals.{literal}
use Rattle.occ_expr_operations.specs.Operations.{plain}
use Rattle.occ_expr_operations.specs.Parts.{component}
use Rattle.occ_expr_operations.specs.Views.{expr_view}
use Rattle.occ_expr_operations.proofs.Views.{expr_alone_open, expr_alone_said, operand_literal_whole, operand_literal_whole_open}
use Rattle.occ_forms_expressions.specs.declared.tree.Expr.{Expr}
use Rattle.occ_forms_expressions.specs.declared.tree.Expr.TheVariants as form
use Rattle.occ_forms_expressions.specs.declared.tree.Literal.TheVariants as l
use Rattle.occ_forms_expressions.specs.declared.tree.Operand.TheVariants as operand
use Rattle.occ_scope.specs.declared.scope.Scope.{Scope}
use Rattle.occ_types.specs.declared.types.OccType.{OccType}
use Rattle.occ_typing_operands.specs.Outcomes.{decimal}
use Rattle.occ_typing_operands.specs.Parts.{subscripted}
use Rattle.occ_typing_operands.specs.Settling.{int}
use Rattle.occ_typing_operands.specs.declared.kind.Kind.{Kind}
use Rattle.occ_typing_operands.specs.declared.kind.Kind.TheVariants as k
use Rattle.occ_typing_rules.specs.Placing.{placed}
use Rattle.occ_typing_rules.specs.declared.open_expr.OpenExpr.{OpenExpr}
use Rattle.occ_typing_rules.specs.declared.open_expr.OpenExpr.TheVariants as d
use Rattle.occ_typing_tables.proofs.Judging.{judged_single}
use Rattle.occ_typing_tables.specs.Terms.{as_it_is, judged}
use Rattle.occ_typing_tables.specs.declared.term.Term.TheVariants as v

abbrev pub digits : ℕ → Expr
digits n = form.Alone (operand.Literal (l.Decimal n))

said_of : (s : Scope) (n : ℕ) → (expr_view (digits n)).said s ≡ record { faults = []; term = v.Single (k.Untyped (decimal (pos n))) }
unfolding literal
said_of s n = expr_alone_said (operand.Literal (l.Decimal n)) s ∙ operand_literal_whole (l.Decimal n) s

open_of : (s : Scope) (n : ℕ) → (expr_view (digits n)).open_expr s ≡ d.Literal (decimal (pos n))
unfolding literal
open_of s n = expr_alone_open (operand.Literal (l.Decimal n)) s ∙ operand_literal_whole_open (l.Decimal n) s

plain_single : (x : Kind) → plain (judged (v.Single x)) ≡ as_it_is x
unfolding plain
plain_single x = ap plain (judged_single x)

pub decimal_selects : (s : Scope) (of : OccType) (n : ℕ) → component s of (expr_view (digits n)) ≡ subscripted of (k.Untyped (decimal (pos n)))
unfolding component
decimal_selects s of n = rw (said_of s n) (rw (plain_single (k.Untyped (decimal (pos n)))) refl)

pub decimal_tree : (s : Scope) (n : ℕ) → place_tree s (expr_view (digits n)) ≡ placed (d.Literal (decimal (pos n))) int
decimal_tree s n = ap (λ (o : OpenExpr). placed o int) (open_of s n)
