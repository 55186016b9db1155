-- What is known of a whole tree at its root, and of the types that open expressions have of their own.
use Rattle.occ_typing_rules.specs.Placing.{known_layer, known_of}
use Rattle.occ_typing_rules.specs.declared.expr.TypedExpr.{TypedExpr, out-TypedExpr}
use Rattle.occ_typing.specs.Known.{IsKnownType}
use Rattle.occ_typing.specs.WholeTrees.{ExprForm, IsWholeExpr, IsWholeExprForm, whole_element, whole_expr}
use Rattle.occ_typing.specs.WholeTrees as wholes

-- ---- trees

root_form : (y : ExprForm) → IsWholeExprForm y → IsKnownType (known_layer y).of
root_form _ (wholes.literal x h) = h
root_form _ (wholes.element _ (whole_element el h name selecting)) = h
root_form _ (wholes.operation x op ts h g) = h
root_form _ (wholes.applied x op t h g) = h
root_form _ (wholes.size x t h g) = h
root_form _ (wholes.converted x t h g) = h
root_form _ (wholes.table x ts h g) = h
root_form _ (wholes.call x callee actuals h g i) = h

-- the type of a whole expression is known
pub root_known : (t : TypedExpr) → IsWholeExpr t → IsKnownType (known_of t).of
unfolding known_of
root_known _ (whole_expr t h) = root_form (out-TypedExpr t) h
