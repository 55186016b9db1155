use Rattle.std.proofs.Common.{◌≡◌, ◌∙◌, false, true, None, ap, sym, subst}
use Rattle.occ_expr_operations.specs.Literals.{byte}
use Rattle.occ_typing_operands.specs.Settling.{int}
use Rattle.occ_typing_operands.specs.declared.kind.Known.{Known}
use Rattle.occ_typing_rules.specs.declared.expr.Selector.TheOpen.{TypedExpr-F}
use Rattle.occ_typing_rules.specs.declared.expr.Selector.TheViews.{out-roll-TypedExpr}
use Rattle.occ_typing_rules.specs.declared.expr.TypedExpr.{TypedExpr, out-TypedExpr}
use Rattle.occ_typing_rules.specs.declared.expr.TypedExpr.TheVariants as typed
use Rattle.occ_typing_rules.proofs.Knowing.{known_literal}
use Rattle.occ_types.specs.declared.types.OccType.TheVariants as t
use Rattle.occ_types.specs.declared.value.Primitive.TheVariants as p
use Rattle.occ_types.proofs.Unknowns.{unknown_primitive, unknown_unknown}
use Rattle.occ_typing.specs.Known.{IsKnownType}
use Rattle.occ_typing.specs.WholeTrees.{IsWholeExpr, IsWholeExprForm, whole_expr}
use Rattle.occ_typing.specs.WholeTrees as wholes
use Rattle.occ_typing.proofs.whole.Made as made
use Rattle.occ_typing.proofs.whole.Roots.{root_known}
use Rattle.occ_typing.proofs.rows.whole_rows.Goals as goal

abbrev of_int : Known
of_int = record { of = int; value = None }

abbrev of_byte : Known
of_byte = record { of = byte; value = None }

abbrev of_nothing : Known
of_nothing = record { of = t.Unknown; value = None }

int_whole : IsWholeExpr (typed.Literal of_int)
int_whole = made.literal of_int (unknown_primitive p.Int)

unknown_literal : IsWholeExpr (typed.Literal of_nothing) → ⊥
unknown_literal h =
    let e : false ≡ true = sym (subst (λ (x : Known). IsKnownType x.of) (known_literal of_nothing) (root_known (typed.Literal of_nothing) h)) ∙ unknown_unknown in absurd cc

operand_form : (x : Known) (e : TypedExpr) → IsWholeExprForm (TypedExpr-F.Converted x e) → IsWholeExpr e
operand_form _ _ (wholes.converted x e h g) = g

operand : (x : Known) (e : TypedExpr) → IsWholeExpr (typed.Converted x e) → IsWholeExpr e
operand x e (whole_expr _ h) = operand_form x e (subst IsWholeExprForm (ap out-TypedExpr (sym (typed.rolls-Converted x e)) ∙ out-roll-TypedExpr (TypedExpr-F.Converted x e)) h)

pub returns : goal.returns
returns c = record {
  literal = int_whole;
  converted = made.converted of_byte (typed.Literal of_int) (unknown_primitive p.Byte) int_whole;
  unknown = unknown_literal;
  inside = λ h. unknown_literal (operand of_byte (typed.Literal of_nothing) h);
}
