-- Options that are literals in decimal digits: their trees, from the line and the type.
use Rattle.std.specs.Prelude.{◌≡◌, ℕ, pos, Option, None, List, [], ◌∷◌}
use Rattle.std.specs.Option.{unwrap_or}
use Rattle.occ_expr_operations.specs.Views.{operand_view}
use Rattle.occ_forms.specs.declared.tree.Form.{Form}
use Rattle.occ_forms.specs.declared.tree.Form.TheVariants as form
use Rattle.occ_forms_expressions.specs.declared.tree.Bounds.{Bounds}
use Rattle.occ_forms_expressions.specs.declared.tree.Bounds.TheOpen.{Expr-F}
use Rattle.occ_forms_expressions.specs.declared.tree.Builtin.{Builtin}
use Rattle.occ_forms_expressions.specs.declared.tree.Dimension.{Dimension}
use Rattle.occ_forms_expressions.specs.declared.tree.Element.{Element}
use Rattle.occ_forms_expressions.specs.declared.tree.Expr.{Expr, out-Expr}
use Rattle.occ_forms_expressions.specs.declared.tree.Expr.TheVariants as expr
use Rattle.occ_forms_expressions.specs.declared.tree.Literal.TheVariants as literal
use Rattle.occ_forms_expressions.specs.declared.tree.NamedOperand.{NamedOperand}
use Rattle.occ_forms_expressions.specs.declared.tree.Operand.{Operand}
use Rattle.occ_forms_expressions.specs.declared.tree.Operand.TheVariants as operand
use Rattle.occ_forms_expressions.specs.declared.tree.TypeForm.{TypeForm}
use Rattle.occ_types.specs.declared.types.OccType.{OccType}
use Rattle.occ_typing_lines.specs.declared.options.Kept.{Kept}
use Rattle.occ_typing_lines.specs.declared.options.Kept.TheVariants as kept
use Rattle.occ_typing_operands.specs.Outcomes.{decimal}
use Rattle.occ_typing_rules.specs.Placing.{known_in}
use Rattle.occ_typing_rules.specs.declared.expr.TypedExpr.{TypedExpr}
use Rattle.occ_typing_rules.specs.declared.expr.TypedExpr.TheVariants as typed

-- a literal in decimal digits alone
pub record IsDecimal (e : Expr) : Type 0 where
  pub number : ℕ
  pub is : e ≡ expr.Alone (operand.Literal (literal.Decimal number))

abbrev pub AreDecimals : List Expr → Type 0
AreDecimals [] = Unit {0}
AreDecimals (e ∷ es) = IsDecimal e × AreDecimals es

-- the number that an expression is, 0 if it is none
abbrev pub digits_in : Expr-F Bounds Builtin Dimension Element Expr NamedOperand Operand TypeForm → Option ℕ
digits_in (Expr-F.Alone o) = (operand_view o).digits
digits_in (Expr-F.Run operator a b os) = None
digits_in (Expr-F.Pair a operator b) = None
digits_in (Expr-F.Applied operator o) = None
digits_in (Expr-F.Converted ds builtin o) = None
digits_in (Expr-F.ArrayConverted d ds name o) = None
digits_in (Expr-F.Expr::Named name o) = None
digits_in (Expr-F.Most extreme of) = None

abbrev pub number_in : Expr → ℕ
number_in e = unwrap_or (digits_in (out-Expr e)) 0

-- its tree, where this type is wanted of it
abbrev pub decimal_tree : OccType → ℕ → TypedExpr
decimal_tree of n = typed.Literal (known_in (decimal (pos n)) of)

abbrev pub decimal_trees : OccType → List Expr → List TypedExpr
decimal_trees of [] = []
decimal_trees of (e ∷ es) = decimal_tree of (number_in e) ∷ decimal_trees of es

-- the expressions of a line of these alone
abbrev pub expressions_in : Form → List Expr
expressions_in (form.Specified x) = []
expressions_in form.Close = []
expressions_in (form.Action a) = []
expressions_in (form.Construct c) = []
expressions_in (form.Part q) = []
expressions_in (form.Expressions e es) = e ∷ es
expressions_in (form.Tagged name d ds) = []

-- the trees that are kept so
abbrev pub shown : Kept → List TypedExpr
shown (kept.Decimals f of) = decimal_trees of (expressions_in f)
shown (kept.Trees ts) = ts
