-- No tree spells a token that stands in none.
use Rattle.std.proofs.Common.{◌≡◌, List}
use Rattle.occ_lines.specs.declared.token.Token.{Token}
use Rattle.occ_forms_expressions.specs.declared.tree.Bounds.{Bounds}
use Rattle.occ_forms_expressions.specs.declared.tree.Element.{Element}
use Rattle.occ_forms_expressions.specs.declared.tree.Expr.{Expr}
use Rattle.occ_forms_expressions.specs.declared.tree.Operand.{Operand}
use Rattle.occ_forms_expressions.specs.declared.tree.TypeForm.{TypeForm}
use Rattle.occ_forms_expressions.specs.Marks.{first_mark}
use Rattle.occ_forms_expressions.specs.Spelling.{Spelling, bounds_then, element_then, expr_then, operand_then, type_form_then}
use Rattle.occ_forms_expressions.proofs.Inner.{inner_bounds, inner_element, inner_expr, inner_operand, inner_type_form}

-- the first mark is one of those that follow
abbrev pub PassesMarks : Spelling → Type 0
PassesMarks f = (k : List Token) → first_mark (f k) ≡ first_mark k

pub expr_mark : (e : Expr) → PassesMarks (expr_then e)
expr_mark e k = (inner_expr e).passes k

pub element_mark : (el : Element) → PassesMarks (element_then el)
element_mark el k = (inner_element el).passes k

pub operand_mark : (o : Operand) → PassesMarks (operand_then o)
operand_mark o k = (inner_operand o).passes k

pub bounds_mark : (b : Bounds) → PassesMarks (bounds_then b)
bounds_mark b k = (inner_bounds b).passes k

pub type_form_mark : (ty : TypeForm) → PassesMarks (type_form_then ty)
type_form_mark ty k = (inner_type_form ty).passes k
