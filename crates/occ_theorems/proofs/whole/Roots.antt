-- What is known of a whole tree at its root, and of the types that open expressions have of their own.
use Rattle.std.proofs.Common.{List, [], ◌∷◌, Option, Some, None, sym, subst, arith}
use Rattle.occ_expr_operations.specs.OpenExprs.{by_value, operands_type, own_type, type_layer, type_or}
use Rattle.occ_typing_operands.specs.Settling.{int}
use Rattle.occ_typing_rules.specs.declared.open_expr.OpenExpr.{OpenExpr, out-OpenExpr, roll-OpenExpr}
use Rattle.occ_typing_rules.specs.declared.open_expr.OpenExpr.TheOpen.{OpenExpr-F}
use Rattle.occ_typing_rules.specs.declared.open_expr.OpenExpr.TheVariants as dr
use Rattle.occ_typing_rules.specs.declared.open_expr.OpenExpr.TheViews.{roll-out-OpenExpr}
use Rattle.occ_typing_rules.specs.declared.expr.TypedExpr.{TypedExpr}
use Rattle.occ_typing_rules.proofs.OpenPlacing.{placed_typed}
use Rattle.occ_types.specs.declared.types.OccType.{OccType}
use Rattle.occ_typing.specs.Known.{IsKnownType}
use Rattle.occ_typing.specs.WholeTrees.{AreWholeActuals, AreWholeExprs, IsWholeExpr, no_actual, no_expr, one_actual, one_expr}
use Rattle.occ_theorems.proofs.whole.Clean.{Has}
use Rattle.occ_typing.proofs.whole.Made as made
use Rattle.occ_theorems.proofs.whole.Reading.{HasTree, int_known}
use Rattle.occ_theorems.proofs.whole.Trees.{Trees}
use Rattle.occ_typing.proofs.whole.Roots.{root_known}

-- ---- trees

pub actuals_by_value : (ts : List TypedExpr) → AreWholeExprs ts → AreWholeActuals (by_value ts)
actuals_by_value _ no_expr = no_actual
actuals_by_value _ (one_expr t ts h g) = one_actual _ (by_value ts) (made.value t h) (actuals_by_value ts g)

-- ---- open expressions

typed_whole : (t : TypedExpr) → HasTree 0 (dr.Typed t) → IsWholeExpr t
typed_whole t h = subst (Has IsWholeExpr) (placed_typed t int) (h int (omega arith) int_known)

-- a type that is there is known
abbrev MayBeKnown : Option OccType → Type 0
MayBeKnown None = Unit {0}
MayBeKnown (Some of) = IsKnownType of

own_layer : (y : OpenExpr-F OpenExpr) → HasTree 0 (roll-OpenExpr y) → MayBeKnown (type_layer y)
own_layer OpenExpr-F.Faulty h = tt
own_layer (OpenExpr-F.Typed t) h = root_known t (typed_whole t (subst (HasTree 0) (dr.rolls-Typed t) h))
own_layer (OpenExpr-F.Literal f) h = tt
own_layer (OpenExpr-F.Operation f op ds) h = tt
own_layer (OpenExpr-F.Applied f op x) h = tt
own_layer (OpenExpr-F.Shifted f op x count) h = tt
own_layer (OpenExpr-F.Table ds) h = tt

own_known : (x : OpenExpr) → HasTree 0 x → MayBeKnown (own_type x)
unfolding own_type
own_known x h = own_layer (out-OpenExpr x) (subst (HasTree 0) (sym (roll-out-OpenExpr x)) h)

or_known : (own : Option OccType) (of : OccType) → MayBeKnown own → IsKnownType of → IsKnownType (type_or own of)
or_known None of h g = g
or_known (Some own) of h g = h

-- the type that operands take is known
pub operands_known : (xs : List OpenExpr) → Trees 0 xs → IsKnownType (operands_type xs)
operands_known [] h = int_known
operands_known (x ∷ xs) h = or_known (own_type x) (operands_type xs) (own_known x h.0) (operands_known xs h.1)
