-- What is known of a name alone, of a type that is known to be that of the name.
use Rattle.std.proofs.Common.{◌≡◌, ◌∙◌, ℕ, Bool, List, [], Option, Some, None, if◌then◌else◌, refl, ap}
use Rattle.occ_base.specs.declared.code.Code.TheVariants as code
use Rattle.occ_types.specs.declared.types.OccType.{OccType}
use Rattle.occ_types.specs.declared.value.Value.{Value}
use Rattle.occ_forms_expressions.specs.declared.tree.Element.TheVariants as elements
use Rattle.occ_forms_expressions.specs.declared.tree.Expr.TheVariants as exprs
use Rattle.occ_forms_expressions.specs.declared.tree.Operand.TheVariants as operands
use Rattle.occ_scope.specs.Elements.{type_of}
use Rattle.occ_scope.specs.Lookup.{element}
use Rattle.occ_scope.specs.Visible.{visible}
use Rattle.occ_scope.specs.declared.meaning.Meaning.{Meaning}
use Rattle.occ_scope.specs.declared.meaning.Meaning.TheVariants as m
use Rattle.occ_scope.specs.declared.scope.Scope.{Scope}
use Rattle.occ_typing_operands.specs.Settling.{fault_of, known}
use Rattle.occ_typing_operands.specs.Wanting.{wanted}
use Rattle.occ_typing_operands.specs.declared.kind.Kind.{Kind}
use Rattle.occ_typing_operands.specs.declared.kind.Kind.TheVariants as k
use Rattle.occ_expr_operations.specs.Parts.{kind_of_whole, named_element, single, whole_element, whole_element_of}
use Rattle.occ_expr_operations.specs.Views.{expr_view}
use Rattle.occ_expr_operations.proofs.Views.{element_named_whole, expr_alone_said, operand_element_whole}
use Rattle.occ_expr.proofs.Fitting.{fits_itself}

pub record IsOf (of : OccType) (kind : Kind) : Type 0 where
  pub value : Option Value
  pub is : kind ≡ known of value

found_kind : (s : Scope) (name : List ℕ) (meaning : Option Meaning) (of : OccType) → visible s name ≡ meaning → type_of meaning ≡ Some of → IsOf of (whole_element_of s name [] meaning).kind
unfolding named_element
found_kind s name None of here is = absurd cc
found_kind s name (Some m.Faulty) of here is = absurd cc
found_kind s name (Some (m.Type t)) of here is = absurd cc
found_kind s name (Some (m.Protocol p)) of here is = absurd cc
found_kind s name (Some (m.Procedure formals)) of here is = absurd cc
found_kind s name (Some (m.Function formals results)) of here is = absurd cc
found_kind s name (Some (m.Element whole)) of here is = record {
  value = whole.value;
  is = ap (λ (x : Option Meaning). kind_of_whole (element name x).found) here ∙ ap (λ (o : Option OccType). known_or o whole.value) is;
} where
  known_or : Option OccType → Option Value → Kind
  known_or None value = k.Faulty
  known_or (Some t) value = known t value

pub value_kind : (s : Scope) (name : List ℕ) (of : OccType) → type_of (visible s name) ≡ Some of → IsOf of (whole_element s name []).kind
unfolding whole_element
value_kind s name of is = found_kind s name (visible s name) of refl is

pub said_alone : (s : Scope) (name : List ℕ) → (expr_view (exprs.Alone (operands.Element (elements.Named name [])))).said s ≡ single (whole_element s name [])
said_alone s name =
    expr_alone_said (operands.Element (elements.Named name [])) s ∙ operand_element_whole (elements.Named name []) s
    ∙ ap single (element_named_whole name [] s)

pub wanted_itself : (of : OccType) (value : Option Value) → (wanted of (known of value)).faults ≡ []
wanted_itself of value = ap (λ (b : Bool). (if b then record { faults = []; kind = known of value } else fault_of code.T2).faults) (fits_itself of)
